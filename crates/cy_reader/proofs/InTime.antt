-- Messages that are put in the order of their times.
use Rattle.std.proofs.Common.{◌≡◌, ◌<◌, ◌≤◌, ◌+◌, ℕ, List, [], ◌∷◌, length, refl, sym, ap, subst, ◌∙◌, arith, Bool, true, false, All}
use Rattle.std.specs.Prelude.{map, filter, slice_index_or}
use Rattle.std.specs.List.Sorted.{IsPermutation, IsSortedByKey, IsStableByKey, ties}
use Rattle.std.specs.Ordering.{nat_cmp, is_lt}
use Rattle.std.proofs.lemmas.List.{length-map, get_or-map}
use Rattle.std.proofs.lemmas.List.Sorted.{All-permutation, IsPermutation-map, length_permutation}
use Rattle.cy_reader.specs.declared.loading.Loading.{Loading}
use Rattle.cy_reader.specs.declared.loading.Message.{Message}
use Rattle.cy_reader.specs.United.{IsInTime}
use Rattle.cy_reader.specs.Record as meaning
use Rattle.cy_reader.specs.private.Loading.{AreSmall, IsSound, IsTied, message_of}
use Rattle.cy_reader.specs.declared.channels.Channels.{Channels}

abbrev time_of : Message → ℕ
time_of m = m.time

abbrev seen_time : meaning.Message → ℕ
seen_time m = m.time

-- the messages that tie with one, before and after they are shown
tied_with : (bodies : List (List ℕ)) (x : meaning.Message) (y : Message) (ms : List Message) → y.time ≡ x.time
    → filter (ties (λ a b. is_lt (nat_cmp (seen_time a) (seen_time b))) x) (map (message_of bodies) ms) ≡ map (message_of bodies) (filter (ties (λ a b. is_lt (nat_cmp (time_of a) (time_of b))) y) ms)
tied_with bodies x y [] same = refl
tied_with bodies x y (m ∷ ms) same = by (ties (λ a b. is_lt (nat_cmp (time_of a) (time_of b))) y m) refl (tied_with bodies x y ms same)
  where
    p : meaning.Message → Bool
    p = ties (λ a b. is_lt (nat_cmp (seen_time a) (seen_time b))) x

    q : Message → Bool
    q = ties (λ a b. is_lt (nat_cmp (time_of a) (time_of b))) y

    here : p (message_of bodies m) ≡ q m
    here = ap (λ (t : ℕ). ties (λ (a b : ℕ). is_lt (nat_cmp a b)) t m.time) (sym same)

    by : (b : Bool) → q m ≡ b → filter p (map (message_of bodies) ms) ≡ map (message_of bodies) (filter q ms) → filter p (map (message_of bodies) (m ∷ ms)) ≡ map (message_of bodies) (filter q (m ∷ ms))
    by true e rest = rw (here, e) (ap (λ (l : List meaning.Message). message_of bodies m ∷ l) rest)
    by false e rest = rw (here, e) rest

pub sorted_messages : (bodies : List (List ℕ)) (before after : List Message) → IsPermutation before after → IsSortedByKey time_of nat_cmp after → IsStableByKey time_of nat_cmp before after
    → IsInTime (map (message_of bodies) before) (map (message_of bodies) after)
sorted_messages bodies before after same sorted stable = record {
  same = IsPermutation-map (message_of bodies) before after same;
  by_time = λ k d low high. by k d low high;
  stable = λ x.
      let y : Message = record { channel = 0; body = 0; time = x.time; start = 0; length = 0 } in
      tied_with bodies x y after refl ∙ ap (map (message_of bodies)) (stable y) ∙ sym (tied_with bodies x y before refl);
}
  where
    none : Message
    none = record { channel = 0; body = 0; time = 0; start = 0; length = 0 }

    at : (k : ℕ) (d : meaning.Message) → k < length after → slice_index_or (map (message_of bodies) after) k d ≡ message_of bodies (slice_index_or after k none)
    at k d low = get_or-map (message_of bodies) after k none d low

    by : (k : ℕ) (d : meaning.Message) → 0 ≤ k → k + 1 < length (map (message_of bodies) after)
        → is_lt (nat_cmp (seen_time (slice_index_or (map (message_of bodies) after) (k + 1) d)) (seen_time (slice_index_or (map (message_of bodies) after) k d))) ≡ false
    by k d low high =
        let few : k + 1 < length after = omega (arith, high, length-map after (message_of bodies)) in
        rw (at (k + 1) d few, at k d (omega (arith, few))) (sorted k none low few)

-- it stays sound
pub sound_sorted : (bodies : ℕ) (old new : Loading) → IsSound bodies old → old.channels ≡ new.channels → IsPermutation old.messages.items new.messages.items → IsSound bodies new
sound_sorted bodies old new sound channels same = record {
  small = subst (λ (c : Channels). AreSmall c.list.items) channels sound.small;
  tied = subst IsTied channels sound.tied;
  few = omega (arith, sound.few, length_permutation old.messages.items new.messages.items same);
  numbered = subst (λ (c : Channels). All (λ (m : Message). m.channel < length c.list.items) new.messages.items) channels (All-permutation (λ (m : Message). m.channel < length old.channels.list.items) old.messages.items new.messages.items same sound.numbered);
  placed = All-permutation (λ (m : Message). m.body < bodies) old.messages.items new.messages.items same sound.placed;
}
