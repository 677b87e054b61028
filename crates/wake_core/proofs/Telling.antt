-- The events by which those are told that a message triggers.
use Rattle.std.proofs.Common.{ℕ, ◌≡◌, ◌==◌, ◌&&◌, Bool, true, false, refl, sym, ◌∙◌, ap, subst, List, [], ◌∷◌, ◌++◌, if◌then◌else◌}
use Rattle.wake_core.specs.Run.{set_at}
use Rattle.wake_core.specs.Plain.{Plain, State}
use Rattle.wake_core.specs.Events.{is_waiting, after_look, after_clear}
use Rattle.wake_core.specs.Laws as event
use Rattle.wake_core.specs.Laws.{Event, Events}
use Rattle.wake_core.proofs.Places.{set_at_same, set_at_again, set_at_itself}
use Rattle.wake_core.proofs.Ways.{one, linked}

-- The first of the news is told: it is no longer among them, and its flag is clear if it waits.
abbrev pub told_one : (p c : ℕ) (later : List ℕ) → Plain → Plain
told_one p c later w = record w {
  news = set_at p later w.news;
  spent = if is_waiting (w.states c) then set_at c false w.spent else w.spent;
}

pub one_told : (p c : ℕ) (later : List ℕ) (w : Plain) → w.fills p ≡ [] → w.news p ≡ c ∷ later → w.clearing p ≡ [] → Events w (told_one p c later w)
one_told p c later w filled first cleared = by (is_waiting (w.states c)) refl
  where
    looks : Event w (after_look p c later w)
    looks = event.look (record { later = later; filled = filled; first = first; effect = refl })

    by : (b : Bool) → is_waiting (w.states c) ≡ b → Events w (record w { news = set_at p later w.news; spent = if b then set_at c false w.spent else w.spent })
    by true is =
        let there : (after_look p c later w).clearing p ≡ c ∷ [] = set_at_same p (if is_waiting (w.states c) then w.clearing p ++ c ∷ [] else w.clearing p) w.clearing
        ∙ ap (λ b. if b then w.clearing p ++ c ∷ [] else w.clearing p) is ∙ ap (λ l. l ++ c ∷ []) cleared in
        subst (λ (l : ℕ → List ℕ). Events w (record w { news = set_at p later w.news; clearing = l; spent = set_at c false w.spent }))
        (set_at_again p (if is_waiting (w.states c) then w.clearing p ++ c ∷ [] else w.clearing p) [] w.clearing ∙ ap (λ l. set_at p l w.clearing) (sym cleared) ∙ set_at_itself p w.clearing)
        (event.more looks (one (event.clear {w = after_look p c later w} {v = after_clear p c [] (after_look p c later w)} (record { before = []; after = []; there = there; effect = refl }))))
    by false is = subst (λ (l : ℕ → List ℕ). Events w (record w { news = set_at p later w.news; clearing = l }))
        (ap (λ b. set_at p (if b then w.clearing p ++ c ∷ [] else w.clearing p) w.clearing) is ∙ set_at_itself p w.clearing) (one looks)

-- Those of whom one of these is the first reader.
abbrev pub firsts : List (ℕ × ℕ) → List ℕ
firsts [] = []
firsts (r ∷ rest) = if r.1 == 0 then r.0 ∷ firsts rest else firsts rest

-- The flags after all of these were told.
abbrev pub flags_after : List (ℕ × ℕ) → (ℕ → State) → (ℕ → Bool) → ℕ → Bool
flags_after [] states spent = spent
flags_after (r ∷ rest) states spent = flags_after rest states (if r.1 == 0 && is_waiting (states r.0) then set_at r.0 false spent else spent)

abbrev pub told_all : List (ℕ × ℕ) → (p : ℕ) → Plain → Plain
told_all rs p w = record w { news = set_at p [] w.news; spent = flags_after rs w.states w.spent }

pub all_told : (rs : List (ℕ × ℕ)) (p : ℕ) (w : Plain) → w.fills p ≡ [] → w.news p ≡ firsts rs → w.clearing p ≡ [] → Events w (told_all rs p w)
all_told [] p w filled news cleared = subst (λ (l : ℕ → List ℕ). Events w (record w { news = l })) (sym (ap (λ l. set_at p l w.news) (sym news) ∙ set_at_itself p w.news)) event.none
all_told (r ∷ rest) p w filled news cleared = by (r.1 == 0) news (all_told rest p)
  where
    by : (b : Bool) → w.news p ≡ (if b then r.0 ∷ firsts rest else firsts rest)
        → ((v : Plain) → v.fills p ≡ [] → v.news p ≡ firsts rest → v.clearing p ≡ [] → Events v (told_all rest p v))
        → Events w (record w { news = set_at p [] w.news; spent = flags_after rest w.states (if b && is_waiting (w.states r.0) then set_at r.0 false w.spent else w.spent) })
    by true is others = subst (λ (l : ℕ → List ℕ). Events w (record w { news = l; spent = flags_after rest w.states (if is_waiting (w.states r.0) then set_at r.0 false w.spent else w.spent) }))
        (set_at_again p (firsts rest) [] w.news)
        (linked (one_told p r.0 (firsts rest) w filled is cleared) (others (told_one p r.0 (firsts rest) w) filled (set_at_same p (firsts rest) w.news) cleared))
    by false is others = others w filled is cleared
