-- A list of messages that is played from the beginning to its end.
use Rattle.std.proofs.Common.{ℕ, zero, suc, ◌+◌, ◌-◌, ◌≡◌, ◌≢◌, ◌≤◌, ◌==◌, Bool, true, false, not, refl, sym, ◌∙◌, ap, subst, inl, inr, arith, List, [], ◌∷◌, length, filter, Option, Some, None, is_some, slice_get, slice_index, cond}
use Rattle.std.proofs.lemmas.Bool.Decides.{eqb_tells}
use Rattle.std.proofs.lemmas.List.Filters.{length-filter_both}
use Rattle.cy_msg.specs.declared.token.Token.{Token}
use Rattle.cy_msg.specs.Tokens.{on_channel}
use Rattle.wake_core.specs.Run.{Route, writes_from, played_of}
use Rattle.wake_core.specs.Plain.{Plain, to_play_from, to_play}
use Rattle.wake_core.specs.Rest.{IsToPlay}

-- Messages of a channel that no component writes are all among the played ones.
pub on_played : (routes : List Route) (channel : ℕ) (tape : List Token) → writes_from 0 routes channel ≡ None → on_channel channel (played_of routes tape) ≡ on_channel channel tape
on_played routes channel [] e = refl
on_played routes channel (t ∷ tape) e = elim (eqb_tells t.channel channel) [
  | inl h ↦
      let played : not (is_some (writes_from 0 routes t.channel)) ≡ true = ap (λ n. not (is_some (writes_from 0 routes n))) h.1 ∙ ap (λ (o : Option ℕ). not (is_some o)) e in
      ap (λ b. on_channel channel (cond b (t ∷ played_of routes tape) (played_of routes tape))) played
      ∙ ap (λ b. cond b (t ∷ on_channel channel (played_of routes tape)) (on_channel channel (played_of routes tape))) h.0
      ∙ ap (λ l. t ∷ l) (on_played routes channel tape e)
      ∙ sym (ap (λ b. cond b (t ∷ on_channel channel tape) (on_channel channel tape)) h.0)
  | inr h ↦
      apart (not (is_some (writes_from 0 routes t.channel))) h.0 ∙ on_played routes channel tape e
      ∙ sym (ap (λ b. cond b (t ∷ on_channel channel tape) (on_channel channel tape)) h.0)
]
  where
    apart : (b : Bool) → (t.channel == channel) ≡ false → on_channel channel (cond b (t ∷ played_of routes tape) (played_of routes tape)) ≡ on_channel channel (played_of routes tape)
    apart true h = ap (λ b. cond b (t ∷ on_channel channel (played_of routes tape)) (on_channel channel (played_of routes tape))) h
    apart false h = refl

-- Those on one channel are none of those on others.
on_others : (first channel : ℕ) (tokens : List Token) → channel ≢ first → on_channel channel (filter (λ t. not (t.channel == first)) tokens) ≡ on_channel channel tokens
on_others first channel [] apart = refl
on_others first channel (t ∷ tokens) apart = elim (eqb_tells t.channel first) [
  | inl h ↦
      let other : (t.channel == channel) ≡ false = elim (eqb_tells t.channel channel) [ inl g ↦ absurd (apart (sym g.1 ∙ h.1)) | inr g ↦ g.0 ] in
      ap (λ b. on_channel channel (cond (not b) (t ∷ filter (λ t. not (t.channel == first)) tokens) (filter (λ t. not (t.channel == first)) tokens))) h.0
      ∙ on_others first channel tokens apart
      ∙ sym (ap (λ b. cond b (t ∷ on_channel channel tokens) (on_channel channel tokens)) other)
  | inr h ↦
      ap (λ b. on_channel channel (cond (not b) (t ∷ filter (λ t. not (t.channel == first)) tokens) (filter (λ t. not (t.channel == first)) tokens))) h.0
      ∙ ap (λ l. cond (t.channel == channel) (t ∷ l) l) (on_others first channel tokens apart)
]

-- What is said of each of some messages is said of each of those of them that pass a test, and what the test says too.
passed_all : (P : Token → Type 0) (p : Token → Bool) (tokens : List Token) → ((n : ℕ) (t : Token) → slice_get tokens n ≡ Some t → P t)
    → (n : ℕ) (t : Token) → slice_get (filter p tokens) n ≡ Some t → P t × (p t ≡ true)
passed_all P p [] all n t e = cc
passed_all P p (x ∷ tokens) all n t e = by (λ k e. passed_all P p tokens (λ k. all (suc k)) k t e) (p x) refl n e
  where
    by : ((k : ℕ) → slice_get (filter p tokens) k ≡ Some t → P t × (p t ≡ true))
        → (b : Bool) → p x ≡ b → (n : ℕ) → slice_get (cond b (x ∷ filter p tokens) (filter p tokens)) n ≡ Some t → P t × (p t ≡ true)
    by rest false is n e = rest n e
    by rest true is zero e = let same : x ≡ t = cc in (subst P same (all 0 x refl), ap p (sym same) ∙ is)
    by rest true is (suc n) e = rest n e

-- As many messages are to be played as a list has that is made of those.
played_total : (routes : List Route) (first : ℕ) (counts : List ℕ) (tokens : List Token)
    → ((j : ℕ) → length (on_channel (first + j) tokens) ≡ slice_index counts j)
    → ((n : ℕ) (t : Token) → slice_get tokens n ≡ Some t → (first ≤ t.channel) × (writes_from 0 routes t.channel ≡ None))
    → to_play_from routes first counts ≡ length tokens
played_total routes first [] [] counted known = refl
played_total routes first [] (t ∷ tokens) counted known =
    let k = known 0 t refl in
    let place : first + (t.channel - first) ≡ t.channel = omega (arith, k.0) in
    let here : length (on_channel t.channel (t ∷ tokens)) ≡ 0 = ap (λ n. length (on_channel n (t ∷ tokens))) (sym place) ∙ counted (t.channel - first) in
    absurd (one_there (sym (ap (λ b. length (cond b (t ∷ on_channel t.channel tokens) (on_channel t.channel tokens))) (same t.channel)) ∙ here))
  where
    same : (n : ℕ) → (n == n) ≡ true
    same n = elim (eqb_tells n n) [ inl h ↦ h.0 | inr h ↦ absurd (h.1 refl) ]

    one_there : {n : ℕ} → suc n ≡ 0 → ⊥
    one_there e = cc
played_total routes first (count ∷ counts) tokens counted known =
    let others : List Token = filter (λ t. not (t.channel == first)) tokens in
    let rest : to_play_from routes (first + 1) counts ≡ length others = played_total routes (first + 1) counts others
    (λ j. later j (counted (suc j)))
    (λ n t e. let h = passed_all (λ t. (first ≤ t.channel) × (writes_from 0 routes t.channel ≡ None)) (λ t. not (t.channel == first)) tokens known n t e in (beyond t h.0.0 h.1, h.0.1)) in
    let all : length (on_channel first tokens) + length others ≡ length tokens = length-filter_both (λ t. t.channel == first) (λ t. not (t.channel == first)) (λ t. refl) tokens in
    let here : length (on_channel first tokens) ≡ count = at_first (counted 0) in
    by (writes_from 0 routes first) refl rest all here
  where
    at_first : length (on_channel (first + 0) tokens) ≡ count → length (on_channel first tokens) ≡ count
    at_first e = let same : first + 0 ≡ first = omega arith in subst (λ n. length (on_channel n tokens) ≡ count) same e

    later : (j : ℕ) → length (on_channel (first + suc j) tokens) ≡ slice_index counts j
        → length (on_channel (first + 1 + j) (filter (λ t. not (t.channel == first)) tokens)) ≡ slice_index counts j
    later j e =
        let same : first + suc j ≡ first + 1 + j = omega arith in
        let apart : first + 1 + j ≢ first = λ is. beside first j is in
        ap length (on_others first (first + 1 + j) tokens apart) ∙ ap (λ n. length (on_channel n tokens)) (sym same) ∙ e
      where
        beside : (a b : ℕ) → a + 1 + b ≡ a → ⊥
        beside a b e = omega (arith, e)

    beyond : (t : Token) → first ≤ t.channel → not (t.channel == first) ≡ true → first + 1 ≤ t.channel
    beyond t l e = elim (eqb_tells t.channel first) [
      | inl h ↦ absurd (false_true (sym (ap not h.0) ∙ e))
      | inr h ↦ above first t.channel l h.1
    ]
      where
        false_true : false ≡ true → ⊥
        false_true e = cc

        above : (a b : ℕ) → a ≤ b → b ≢ a → a + 1 ≤ b
        above a b l apart = omega (arith, l, apart)

    none_here : (c : ℕ) → writes_from 0 routes first ≡ Some c → (xs : List Token) → ((n : ℕ) (t : Token) → slice_get xs n ≡ Some t → t.channel ≡ first × (writes_from 0 routes t.channel ≡ None)) → length xs ≡ 0
    none_here c e [] known = refl
    none_here c e (x ∷ xs) known = let k = known 0 x refl in absurd (none_some (sym k.1 ∙ ap (writes_from 0 routes) k.0 ∙ e))
      where
        none_some : None ≡ Some c → ⊥
        none_some e = cc

    by : (o : Option ℕ) → writes_from 0 routes first ≡ o → to_play_from routes (first + 1) counts ≡ length (filter (λ t. not (t.channel == first)) tokens)
        → length (on_channel first tokens) + length (filter (λ t. not (t.channel == first)) tokens) ≡ length tokens → length (on_channel first tokens) ≡ count
        → to_play_from routes first (count ∷ counts) ≡ length tokens
    by None e rest all here = rw e (omega (arith, rest, all, here))
    by (Some c) e rest all here =
        let none : length (on_channel first tokens) ≡ 0 = none_here c e (on_channel first tokens)
        (λ n t at. let h = passed_all (λ t. writes_from 0 routes t.channel ≡ None) (λ t. t.channel == first) tokens (λ k s at. (known k s at).1) n t at in (tells t h.1, h.0)) in
        rw e (omega (arith, rest, all, none))
      where
        tells : (t : Token) → (t.channel == first) ≡ true → t.channel ≡ first
        tells t e = elim (eqb_tells t.channel first) [ inl h ↦ h.1 | inr h ↦ absurd (false_true (sym h.0 ∙ e)) ]
          where
            false_true : false ≡ true → ⊥
            false_true e = cc

pub to_play_total : (w : Plain) (tokens : List Token) → IsToPlay w tokens → to_play w ≡ length tokens
to_play_total w tokens p = played_total w.routes 0 w.counts tokens (λ j. at j (p.counted j)) (λ n t e. (omega arith, p.unwritten n t e))
  where
    at : (j : ℕ) → length (on_channel j tokens) ≡ slice_index w.counts j → length (on_channel (0 + j) tokens) ≡ slice_index w.counts j
    at j e = let same : 0 + j ≡ j = omega arith in subst (λ n. length (on_channel n tokens) ≡ slice_index w.counts j) (sym same) e
