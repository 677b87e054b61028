-- What each event keeps of the delivery.
use Rattle.std.proofs.Common.{ℕ, zero, suc, ap₂, ◌+◌, ◌-◌, ◌≡◌, ◌≢◌, ◌⊎◌, ◌≤◌, Bool, true, false, refl, sym, ◌∙◌, ap, inl, inr, arith, List, [], ◌∷◌, ◌++◌, length, take, drop, Some, None, Option, slice_get, true≢false, length-append, ◌==◌, ◌&&◌, if◌then◌else◌}
use Rattle.std.proofs.Math.Seq.{take-length, take-append_seam}
use Rattle.std.proofs.lemmas.List.{take-append-le, length-drop, length-take}
use Rattle.std.proofs.lemmas.Bool.Decides.{nat_tests, eqb_tells}
use Rattle.cy_msg.specs.declared.token.Token.{Token}
use Rattle.cy_msg.specs.Tokens.{on_channel}
use Rattle.cy_msg.proofs.Lists.{place, get_snoc, snoc_at, take_next}
use Rattle.cy_fuse.specs.Fusion.{Arrival}
use Rattle.cy_comp.specs.declared.call.Call.{Call}
use Rattle.cy_comp.specs.Calls.{outs}
use Rattle.wake_core.specs.Run.{Route, set_at, readers_of, writes_from}
use Rattle.wake_core.specs.Plain.{Hand, hand, Phase, reads, of_role, lists, lists_reader}
use Rattle.wake_core.specs.Sound.{Delivered, IsFilled, is_handing, hands_on}
use Rattle.wake_core.proofs.Places.{set_at_there, set_at_other}
use Rattle.wake_core.proofs.Listing.{lists_snoc}
use Rattle.wake_core.proofs.Readers.{lists_reader_first, lists_reader_other, reader_reads, reads_reader, left_once, left_reads}
use Rattle.wake_core.proofs.Arrived.{on_channel-own, on_channel-other, role_own, role_other}

-- What begins a list begins a longer one.
sent_still : {X : Type 0} (xs ys more : List X) → xs ≡ take (length xs) ys → xs ≡ take (length xs) (ys ++ more)
sent_still xs ys more e =
    let few : length xs ≤ length ys = omega (arith, length-take (length xs) ys, ap length e) in
    e ∙ sym (take-append-le (length xs) ys more few)

all_begins : {X : Type 0} (xs ys : List X) → xs ≡ ys → xs ≡ take (length xs) ys
all_begins xs ys e = e ∙ sym (take-length ys) ∙ ap (λ n. take n ys) (ap length (sym e))

drop_next : {X : Type 0} (n : ℕ) (xs : List X) (x : X) (later : List X) → drop n xs ≡ x ∷ later → drop (suc n) xs ≡ later
drop_next zero [] x later e = cc
drop_next zero (y ∷ xs) x later e = cc
drop_next (suc n) [] x later e = cc
drop_next (suc n) (y ∷ xs) x later e = drop_next n xs x later e

-- The rest of what is left of a list is what is left of it.
left_later : {X : Type 0} (xs : List X) (x : X) (later : List X) → drop (length xs - length (x ∷ later)) xs ≡ x ∷ later → drop (length xs - length later) xs ≡ later
left_later xs x later e =
    let next : length xs - length later ≡ suc (length xs - length (x ∷ later)) = omega (arith, length-drop (length xs - length (x ∷ later)) xs, ap length e) in
    ap (λ n. drop n xs) next ∙ drop_next (length xs - length (x ∷ later)) xs x later e

drop_none : {X : Type 0} (xs : List X) → drop (length xs - length xs) xs ≡ xs
drop_none xs = let none : length xs - length xs ≡ 0 = omega arith in ap (λ n. drop n xs) none

not_true : (b : Bool) → (b ≡ true → ⊥) → b ≡ false
not_true true n = absurd (n refl)
not_true false n = refl

some_of : (v j : ℕ) (xs : List (ℕ × ℕ)) → lists_reader v j xs ≡ true → xs ≢ []
some_of v j [] e = λ n. cc
some_of v j (x ∷ xs) e = λ n. cc

all_but_one : {X : Type 0} (xs : List X) (x : X) → take (length (xs ++ x ∷ []) - 1) (xs ++ x ∷ []) ≡ xs
all_but_one xs x = let n : length (xs ++ x ∷ []) - 1 ≡ length xs = omega (arith, length-append xs (x ∷ [])) in
    ap (λ k. take k (xs ++ x ∷ [])) n ∙ take-append_seam xs (x ∷ [])

pub phase_of : (c k : ℕ) (f g : Phase) → hand c f ≡ hand k g → f ≡ g
phase_of c k f g e = grind (arith, e)

-- A hand in which an output is handed on holds its component in such a phase; and no other hand does.
pub handing : (h : Option Hand) (c : ℕ) → hands_on h c ≡ true → (f : Phase) × (h ≡ hand c f) × (is_handing f ≡ true)
handing None c e = cc
handing (Some h) c e = elim (eqb_tells h.croutine c) [
  | inl i ↦ (h.phase, ap (λ n. hand n h.phase) i.1, sym (ap (λ b. b && is_handing h.phase) i.0) ∙ e)
  | inr i ↦ absurd (true≢false (sym e ∙ ap (λ b. b && is_handing h.phase) i.0))
]

pub hands_its : (c : ℕ) (f : Phase) → is_handing f ≡ true → hands_on (hand c f) c ≡ true
hands_its c f e = elim (eqb_tells c c) [ inl i ↦ ap (λ b. b && is_handing f) i.0 ∙ e | inr i ↦ absurd (i.1 refl) ]

pub hands_off : (c k : ℕ) (f : Phase) → is_handing f ≡ false → hands_on (hand c f) k ≡ false
hands_off c k f e = by (c == k)
  where
    by : (b : Bool) → (b && is_handing f) ≡ false
    by true = e
    by false = refl

-- Of two threads that hand an output of one component on neither is another than the other.
same_holder : (hands : ℕ → Option Hand) (p q c : ℕ) → hands_on (hands p) c ≡ true → hands_on (hands q) c ≡ true
    → ((f g : Phase) → hands p ≡ hand c f → hands q ≡ hand c g → p ≡ q) → q ≢ p → ⊥
same_holder hands p q c has also one other =
    let mine = handing (hands p) c has in
    let its = handing (hands q) c also in
    other (sym (one mine.0 its.0 mine.1 its.1))

module _ {routes : List Route} {hands : ℕ → Option Hand} {calls : ℕ → List Call} {arrivals : ℕ → List Arrival} {fills : ℕ → List (ℕ × ℕ)} {news clearing : ℕ → List ℕ} {tokens : ℕ → Token} {tape : List Token} where
  -- Hands may change where those that have to fill still hold what they sent for.
  pub rehand_delivered : (hands' : ℕ → Option Hand) → ((p c : ℕ) → fills p ≢ [] → writes_from 0 routes (tokens p).channel ≡ Some c → hands_on (hands' p) c ≡ true)
      → Delivered routes hands calls arrivals fills news clearing tokens tape → Delivered routes hands' calls arrivals fills news clearing tokens tape
  rehand_delivered hands' keeps d = record {
    begins = d.begins;
    whole = d.whole;
    owed = d.owed;
    known = d.known;
    numbered = d.numbered;
    history = d.history;
    but_last = d.but_last;
    suffix = d.suffix;
    player = d.player;
    holder = keeps;
    told = d.told;
    looked = d.looked;
  }

  -- A hand in which no output is handed on may change.
  pub hand_delivered : (p : ℕ) (old new : Option Hand) → hands p ≡ old → ((c : ℕ) → hands_on old c ≡ false)
      → Delivered routes hands calls arrivals fills news clearing tokens tape → Delivered routes (set_at p new hands) calls arrivals fills news clearing tokens tape
  hand_delivered p old new held off d = rehand_delivered (set_at p new hands) (λ q c some by. elim (place q p) [
    | inl e ↦ absurd (true≢false (sym (d.holder q c some by) ∙ ap (λ h. hands_on h c) (ap hands e ∙ held) ∙ off c))
    | inr e ↦ ap (λ h. hands_on h c) (set_at_other p new hands q e) ∙ d.holder q c some by
  ]) d

  pub phase_delivered : (p c : ℕ) (old : Phase) (new : Option Hand) → hands p ≡ hand c old → is_handing old ≡ false
      → Delivered routes hands calls arrivals fills news clearing tokens tape → Delivered routes (set_at p new hands) calls arrivals fills news clearing tokens tape
  phase_delivered p c old new held off d = hand_delivered p (hand c old) new held (λ k. hands_off c k old off) d

  -- The hand of a thread that has nothing to fill may change.
  pub idle_hand_delivered : (p : ℕ) (new : Option Hand) → fills p ≡ []
      → Delivered routes hands calls arrivals fills news clearing tokens tape → Delivered routes (set_at p new hands) calls arrivals fills news clearing tokens tape
  idle_hand_delivered p new none d = rehand_delivered (set_at p new hands) (λ q c some by. elim (place q p) [
    | inl e ↦ absurd (some (ap fills e ∙ none))
    | inr e ↦ ap (λ h. hands_on h c) (set_at_other p new hands q e) ∙ d.holder q c some by
  ]) d

  -- News, and those to clear, may become fewer, or go from the one to the other.
  pub renew_delivered : (news' clearing' : ℕ → List ℕ)
      → ((p v : ℕ) → lists v (news' p) ≡ true → (lists v (news p) ≡ true) ⊎ (lists v (clearing p) ≡ true))
      → ((p v : ℕ) → lists v (clearing' p) ≡ true → (lists v (news p) ≡ true) ⊎ (lists v (clearing p) ≡ true))
      → Delivered routes hands calls arrivals fills news clearing tokens tape → Delivered routes hands calls arrivals fills news' clearing' tokens tape
  renew_delivered news' clearing' from to d = record {
    begins = d.begins;
    whole = d.whole;
    owed = d.owed;
    known = d.known;
    numbered = d.numbered;
    history = d.history;
    but_last = d.but_last;
    suffix = d.suffix;
    player = d.player;
    holder = d.holder;
    told = λ p v l. elim (from p v l) [ inl h ↦ d.told p v h | inr h ↦ d.looked p v h ];
    looked = λ p v l. elim (to p v l) [ inl h ↦ d.told p v h | inr h ↦ d.looked p v h ];
  }

  -- A call more of a component with no unsent output.
  pub call_delivered : (c : ℕ) (call : Call)
      → ((x : Route) → slice_get routes c ≡ Some x → length (outs x.out (calls c)) ≤ length (on_channel x.out tape))
      → ((x : Route) → slice_get routes c ≡ Some x → (more : List Token) × (outs x.out (calls c ++ call ∷ []) ≡ outs x.out (calls c) ++ more))
      → Delivered routes hands calls arrivals fills news clearing tokens tape → Delivered routes hands (set_at c (calls c ++ call ∷ []) calls) arrivals fills news clearing tokens tape
  call_delivered c call all more d = record {
    begins = d.begins;
    whole = d.whole;
    owed = d.owed;
    known = d.known;
    numbered = d.numbered;
    history = λ k x is. elim (place k c) [
      | inl e ↦
          let at = rw e at is in
          let m = more x at in
          rw (set_at_there c (calls c ++ call ∷ []) calls k e, m.1) (sent_still (on_channel x.out tape) (outs x.out (calls c)) m.0 (d.history c x at))
      | inr e ↦ rw (set_at_other c (calls c ++ call ∷ []) calls k e) (d.history k x is)
    ];
    but_last = λ k x is. elim (place k c) [
      | inl e ↦
          let at = rw e at is in
          rw (set_at_there c (calls c ++ call ∷ []) calls k e, all_but_one (calls c) call) (all x at)
      | inr e ↦ rw (set_at_other c (calls c ++ call ∷ []) calls k e) (d.but_last k x is)
    ];
    suffix = d.suffix;
    player = d.player;
    holder = d.holder;
    told = d.told;
    looked = d.looked;
  }

  -- Whoever has to fill a reader fills it with a message of the channel that it reads.
  pub owes_channel : Delivered routes hands calls arrivals fills news clearing tokens tape → (p v j : ℕ) → lists_reader v j (fills p) ≡ true
      → reads routes v j ≡ Some (tokens p).channel
  owes_channel d p v j l =
      let readers = readers_of routes (tokens p).channel in
      reader_reads routes (tokens p).channel v j (left_reads (length readers - length (fills p)) readers v j (ap (lists_reader v j) (d.suffix p) ∙ l))

  -- A message comes onto the tape, and its thread then has to fill the readers of its channel.
  pub tape_delivered : (p : ℕ) (t : Token) → fills p ≡ [] → news p ≡ [] → clearing p ≡ []
      → ((q : ℕ) → q ≢ p → fills q ≢ [] → (tokens q).channel ≢ t.channel)
      → t.seq ≡ length (on_channel t.channel tape) + 1
      → ((c : ℕ) (x : Route) → slice_get routes c ≡ Some x → t.channel ≡ x.out → slice_get (outs x.out (calls c)) (length (on_channel x.out tape)) ≡ Some t)
      → (writes_from 0 routes t.channel ≡ None → p ≡ 0)
      → ((c : ℕ) → writes_from 0 routes t.channel ≡ Some c → hands_on (hands p) c ≡ true)
      → Delivered routes hands calls arrivals fills news clearing tokens tape
      → Delivered routes hands calls arrivals (set_at p (readers_of routes t.channel) fills) news clearing (set_at p t tokens) (tape ++ t ∷ [])
  tape_delivered p t filled looked cleared alone numbered next player holder d =
      let readers = readers_of routes t.channel in
      let its_fills : (q : ℕ) → q ≡ p → set_at p readers fills q ≡ readers = set_at_there p readers fills in
      let its_token : (q : ℕ) → q ≡ p → set_at p t tokens q ≡ t = set_at_there p t tokens in
      let same_fills : (q : ℕ) → q ≢ p → set_at p readers fills q ≡ fills q = set_at_other p readers fills in
      let same_token : (q : ℕ) → q ≢ p → set_at p t tokens q ≡ tokens q = set_at_other p t tokens in
      let none_before : (v j : ℕ) → reads routes v j ≡ Some t.channel → IsFilled fills v j = λ v j reading q. elim (place q p) [
        | inl e ↦ ap (lists_reader v j) (ap fills e ∙ filled)
        | inr e ↦ not_true (lists_reader v j (fills q)) (λ l. let is = owes_channel d q v j l in alone q e (some_of v j (fills q) l) (one_of (sym is ∙ reading)))
      ] in
      record {
        begins = λ v j channel reading. elim (place t.channel channel) [
          | inl e ↦ rw (on_channel-own channel tape t e) (sent_still (of_role j (arrivals v)) (on_channel channel tape) (t ∷ []) (d.begins v j channel reading))
          | inr e ↦ rw (on_channel-other channel tape t e) (d.begins v j channel reading)
        ];
        whole = λ v j channel reading free. elim (place t.channel channel) [
          | inl e ↦ absurd (true≢false (sym (reads_reader routes t.channel v j (reading ∙ ap (λ n. Some n) (sym e))) ∙ ap (lists_reader v j) (sym (its_fills p refl)) ∙ free p))
          | inr e ↦ d.whole v j channel reading (λ q. elim (place q p) [
            | inl s ↦ ap (lists_reader v j) (ap fills s ∙ filled)
            | inr s ↦ ap (lists_reader v j) (sym (same_fills q s)) ∙ free q
          ]) ∙ sym (on_channel-other channel tape t e)
        ];
        owed = λ q v j l. elim (place q p) [
          | inl e ↦
              let reading : reads routes v j ≡ Some t.channel = reader_reads routes t.channel v j (ap (lists_reader v j) (sym (its_fills q e)) ∙ l) in
              rw (its_token q e) (ap (λ xs. xs ++ t ∷ []) (d.whole v j t.channel reading (none_before v j reading)) ∙ sym (on_channel-own t.channel tape t refl))
          | inr e ↦
              let l' = ap (lists_reader v j) (sym (same_fills q e)) ∙ l in
              rw (same_token q e) (d.owed q v j l' ∙ sym (on_channel-other (tokens q).channel tape t (λ s. alone q e (some_of v j (fills q) l') (sym s))))
        ];
        known = d.known;
        numbered = snoc_at (λ before s. s.seq ≡ length (on_channel s.channel before) + 1) tape t d.numbered numbered;
        history = λ c x is. elim (place t.channel x.out) [
          | inl e ↦ rw (on_channel-own x.out tape t e) (taken_more (on_channel x.out tape) t (outs x.out (calls c)) (d.history c x is) (next c x is e))
          | inr e ↦ rw (on_channel-other x.out tape t e) (d.history c x is)
        ];
        but_last = λ c x is. elim (place t.channel x.out) [
          | inl e ↦ rw (on_channel-own x.out tape t e) (one_more (outs x.out (take (length (calls c) - 1) (calls c))) (on_channel x.out tape) t (d.but_last c x is))
          | inr e ↦ rw (on_channel-other x.out tape t e) (d.but_last c x is)
        ];
        suffix = λ q. elim (place q p) [
          | inl e ↦ rw (its_token q e, its_fills q e) (drop_none readers)
          | inr e ↦ rw (same_token q e, same_fills q e) (d.suffix q)
        ];
        player = λ q some none. elim (place q p) [
          | inl e ↦ e ∙ player (rw (its_token q e) at none)
          | inr e ↦ d.player q (λ n. some (same_fills q e ∙ n)) (rw (same_token q e) at none)
        ];
        holder = λ q c some by. elim (place q p) [
          | inl e ↦ ap (λ n. hands_on (hands n) c) e ∙ holder c (rw (its_token q e) at by)
          | inr e ↦ d.holder q c (λ n. some (same_fills q e ∙ n)) (rw (same_token q e) at by)
        ];
        told = λ q v l. elim (place q p) [
          | inl e ↦ absurd (true≢false (sym l ∙ ap (lists v) (ap news e ∙ looked)))
          | inr e ↦ rw (same_token q e) (d.told q v l)
        ];
        looked = λ q v l. elim (place q p) [
          | inl e ↦ absurd (true≢false (sym l ∙ ap (lists v) (ap clearing e ∙ cleared)))
          | inr e ↦ rw (same_token q e) (d.looked q v l)
        ];
      }
    where
      one_of : {m n : ℕ} → Some m ≡ Some n → m ≡ n
      one_of e = cc

      taken_more : (xs : List Token) (t : Token) (ys : List Token) → xs ≡ take (length xs) ys → slice_get ys (length xs) ≡ Some t → xs ++ t ∷ [] ≡ take (length (xs ++ t ∷ [])) ys
      taken_more xs t ys e at = ap (λ zs. zs ++ t ∷ []) e ∙ sym (take_next ys (length xs) t at) ∙ ap (λ n. take n ys) (sym (length-append xs (t ∷ [])))

      one_more : (ys xs : List Token) (t : Token) → length ys ≤ length xs → length ys ≤ length (xs ++ t ∷ [])
      one_more ys xs t l = omega (arith, length-append xs (t ∷ []))

  -- Nobody else has to fill the reader that a thread has to fill.
  pub alone_fills : ((c p q : ℕ) (f g : Phase) → hands p ≡ hand c f → hands q ≡ hand c g → p ≡ q) → Delivered routes hands calls arrivals fills news clearing tokens tape
      → (p v j : ℕ) → lists_reader v j (fills p) ≡ true → (q : ℕ) → q ≢ p → lists_reader v j (fills q) ≡ false
  alone_fills one d p v j l q other = not_true (lists_reader v j (fills q)) (λ m.
      let mine = owes_channel d p v j l in
      let its = owes_channel d q v j m in
      let same : (tokens q).channel ≡ (tokens p).channel = one_of (sym its ∙ mine) in
      by (writes_from 0 routes (tokens p).channel) refl same m)
    where
      one_of : {m n : ℕ} → Some m ≡ Some n → m ≡ n
      one_of e = cc

      by : (writer : Option ℕ) → writes_from 0 routes (tokens p).channel ≡ writer → (tokens q).channel ≡ (tokens p).channel → lists_reader v j (fills q) ≡ true → ⊥
      by None e same m = other (d.player q (some_of v j (fills q) m) (ap (writes_from 0 routes) same ∙ e) ∙ sym (d.player p (some_of v j (fills p) l) e))
      by (Some c) e same m = same_holder hands p q c (d.holder p c (some_of v j (fills p) l) e) (d.holder q c (some_of v j (fills q) m) (ap (writes_from 0 routes) same ∙ e)) (λ f g. one c p q f g) other

  -- A message arrives at the first reader that its thread has to fill.
  pub fill_delivered : (p v j : ℕ) (later : List (ℕ × ℕ)) → fills p ≡ (v, j) ∷ later
      → ((c p q : ℕ) (f g : Phase) → hands p ≡ hand c f → hands q ≡ hand c g → p ≡ q)
      → Delivered routes hands calls arrivals fills news clearing tokens tape
      → Delivered routes hands calls (set_at v (arrivals v ++ (j, tokens p) ∷ []) arrivals) (set_at p later fills) (set_at p (if j == 0 then news p ++ v ∷ [] else news p) news) clearing tokens tape
  fill_delivered p v j later first one d =
      let t = tokens p in
      let mine : lists_reader v j (fills p) ≡ true = ap (lists_reader v j) first ∙ lists_reader_first v j later in
      let reading : reads routes v j ≡ Some (tokens p).channel = owes_channel d p v j mine in
      let readers = readers_of routes (tokens p).channel in
      let once : lists_reader v j later ≡ false = left_once routes (tokens p).channel (length readers - length (fills p)) v j later (d.suffix p ∙ first) in
      let alone = alone_fills one d p v j mine in
      let its_fills : (q : ℕ) → q ≡ p → set_at p later fills q ≡ later = set_at_there p later fills in
      let same_fills : (q : ℕ) → q ≢ p → set_at p later fills q ≡ fills q = set_at_other p later fills in
      let paid : (q : ℕ) → lists_reader v j (set_at p later fills q) ≡ false = λ q. elim (place q p) [
        | inl e ↦ ap (lists_reader v j) (its_fills q e) ∙ once
        | inr e ↦ ap (lists_reader v j) (same_fills q e) ∙ alone q e
      ] in
      let before : (u i : ℕ) → ((v ≡ u) × (j ≡ i) → ⊥) → (q : ℕ) → lists_reader u i (fills q) ≡ lists_reader u i (set_at p later fills q) = λ u i n q. elim (place q p) [
        | inl e ↦ ap (lists_reader u i) (ap fills e ∙ first) ∙ lists_reader_other u i v j later n ∙ ap (lists_reader u i) (sym (its_fills q e))
        | inr e ↦ ap (lists_reader u i) (sym (same_fills q e))
      ] in
      record {
        begins = λ u i channel is. elim (same_reader v j u i) [
          | inl e ↦
              let own : of_role i (set_at v (arrivals v ++ (j, t) ∷ []) arrivals u) ≡ on_channel channel tape =
              rw (sym e.0, sym e.1) (role_own arrivals v j t ∙ d.owed p v j mine ∙ ap (λ n. on_channel n tape) (one_of (sym reading ∙ ap₂ (reads routes) e.0 e.1 ∙ is))) in
              all_begins (of_role i (set_at v (arrivals v ++ (j, t) ∷ []) arrivals u)) (on_channel channel tape) own
          | inr n ↦ rw (role_other arrivals v j u i t n) (d.begins u i channel is)
        ];
        whole = λ u i channel is free. elim (same_reader v j u i) [
          | inl e ↦ rw (sym e.0, sym e.1) (role_own arrivals v j t ∙ d.owed p v j mine ∙ ap (λ n. on_channel n tape) (one_of (sym reading ∙ ap₂ (reads routes) e.0 e.1 ∙ is)))
          | inr n ↦ role_other arrivals v j u i t n ∙ d.whole u i channel is (λ q. before u i n q ∙ free q)
        ];
        owed = λ q u i owes. elim (same_reader v j u i) [
          | inl e ↦ absurd (true≢false (sym owes ∙ ap₂ (λ a b. lists_reader a b (set_at p later fills q)) (sym e.0) (sym e.1) ∙ paid q))
          | inr n ↦ ap (λ xs. xs ++ tokens q ∷ []) (role_other arrivals v j u i t n) ∙ d.owed q u i (before u i n q ∙ owes)
        ];
        known = λ u n a at. elim (place u v) [
          | inl e ↦ elim (get_snoc (arrivals v) (j, t) n a (ap (λ xs. slice_get xs n) (sym (set_at_there v (arrivals v ++ (j, t) ∷ []) arrivals u e)) ∙ at)) [
            | inl h ↦ rw e (d.known v n a h)
            | inr h ↦ λ none. some_none (sym reading ∙ ap₂ (λ x (y : Arrival). reads routes x y.0) (sym e) h.1 ∙ none)
          ]
          | inr e ↦ d.known u n a (ap (λ xs. slice_get xs n) (sym (set_at_other v (arrivals v ++ (j, t) ∷ []) arrivals u e)) ∙ at)
        ];
        numbered = d.numbered;
        history = d.history;
        but_last = d.but_last;
        suffix = λ q. elim (place q p) [
          | inl e ↦ rw (e, its_fills p refl) (left_later readers (v, j) later (ap (λ xs. drop (length readers - length xs) readers) (sym first) ∙ d.suffix p ∙ first))
          | inr e ↦ rw (same_fills q e) (d.suffix q)
        ];
        player = λ q some none. elim (place q p) [
          | inl e ↦ d.player q (λ n. cons_none (sym first ∙ ap fills (sym e) ∙ n)) none
          | inr e ↦ d.player q (λ n. some (same_fills q e ∙ n)) none
        ];
        holder = λ q c some by. elim (place q p) [
          | inl e ↦ d.holder q c (λ n. cons_none (sym first ∙ ap fills (sym e) ∙ n)) by
          | inr e ↦ d.holder q c (λ n. some (same_fills q e ∙ n)) by
        ];
        told = λ q u l. elim (place q p) [
          | inl e ↦ rw e (news_more u (j == 0) refl (ap (lists u) (sym (set_at_there p (if j == 0 then news p ++ v ∷ [] else news p) news q e)) ∙ l))
          | inr e ↦ d.told q u (ap (lists u) (sym (set_at_other p (if j == 0 then news p ++ v ∷ [] else news p) news q e)) ∙ l)
        ];
        looked = d.looked;
      }
    where
      one_of : {m n : ℕ} → Some m ≡ Some n → m ≡ n
      one_of e = cc

      some_none : {n : ℕ} → Some n ≡ None → ⊥
      some_none e = cc

      cons_none : (v, j) ∷ later ≡ [] → ⊥
      cons_none e = cc

      same_reader : (v j u i : ℕ) → ((v ≡ u) × (j ≡ i)) ⊎ ((v ≡ u) × (j ≡ i) → ⊥)
      same_reader v j u i = elim (place v u) [ inr n ↦ inr (λ e. n e.0) | inl a ↦ elim (place j i) [ inl b ↦ inl (a, b) | inr n ↦ inr (λ e. n e.1) ] ]

      is_zero : (j : ℕ) → (j == 0) ≡ true → j ≡ 0
      is_zero j e = grind (arith, nat_tests, e)

      news_more : (u : ℕ) (zeroth : Bool) → (j == 0) ≡ zeroth → lists u (if zeroth then news p ++ v ∷ [] else news p) ≡ true → reads routes u 0 ≡ Some (tokens p).channel
      news_more u true is l = elim (lists_snoc u v (news p) l) [
        | inl h ↦ d.told p u h
        | inr h ↦ ap₂ (reads routes) h (sym (is_zero j is)) ∙ owes_channel d p v j (ap (lists_reader v j) first ∙ lists_reader_first v j later)
      ]
      news_more u false is l = d.told p u l
