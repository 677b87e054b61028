-- What a fetch finds.
use Rattle.std.proofs.Common.{ℕ, ◌+◌, ◌-◌, ◌≡◌, ◌≢◌, ◌≤◌, ◌<◌, ◌==◌, ◌||◌, Bool, true, false, nat_lt, nat_le, if◌then◌else◌, refl, sym, ap, ◌∙◌, Some, None, arith}
use Rattle.std.proofs.lemmas.Bool.Decides.{nat_tests}
use Rattle.cy_fuse.specs.declared.overflow.Overflow.{Overflow}
use Rattle.cy_fuse.specs.declared.overflow.Overflow.TheVariants.{Newest, Oldest}
use Rattle.cy_fuse.specs.Fetch.{overflows_to, fetch}
use Rattle.cy_fuse.specs.Laws.{FetchBounds, FetchesFind, FetchesOverflow}

-- a fetch finds one of the last items
pub record IsFound (tail queue number : ℕ) : Type 0 where
  pub some : 1 ≤ number
  pub kept : tail - queue + 1 ≤ number
  pub within : number ≤ tail

pub fetch_found : (index tail queue : ℕ) (o : Overflow) (number : ℕ) → 1 ≤ queue → fetch index tail queue o ≡ Some number → IsFound tail queue number
unfolding fetch
fetch_found index tail queue Newest number some e = record { some = grind (arith, nat_tests); kept = grind (arith, nat_tests); within = grind (arith, nat_tests) }
fetch_found index tail queue Oldest number some e = record { some = grind (arith, nat_tests); kept = grind (arith, nat_tests); within = grind (arith, nat_tests) }

bounds : (index tail queue : ℕ) (o : Overflow) (number : ℕ) → fetch index tail queue o ≡ Some number → FetchBounds index tail number
unfolding fetch
bounds index tail queue Newest number e = record { from_index = grind (arith, nat_tests); from_one = grind (arith, nat_tests); to_tail = grind (arith, nat_tests) }
bounds index tail queue Oldest number e = record { from_index = grind (arith, nat_tests); from_one = grind (arith, nat_tests); to_tail = grind (arith, nat_tests) }

-- The rule, by its tests.
by_tests : (index tail queue : ℕ) (o : Overflow) (a b c d : Bool) → (tail == 0) ≡ a → nat_lt tail index ≡ b → (index == 0) ≡ c → nat_le (index + queue) tail ≡ d
    → fetch index tail queue o ≡ (if a || b then None else (if c then Some tail else (if d then Some (overflows_to o tail queue) else Some index)))
unfolding fetch
by_tests index tail queue o a b c d ea eb ec ed = rw (ea, eb, ec, ed) refl

past : (index tail queue : ℕ) (o : Overflow) → tail < index → fetch index tail queue o ≡ None
past index tail queue o l = by (tail == 0) refl
  where
    less : nat_lt tail index ≡ true
    less = grind (arith, nat_tests)

    by : (a : Bool) → (tail == 0) ≡ a → fetch index tail queue o ≡ None
    by true e = by_tests index tail queue o true true (index == 0) (nat_le (index + queue) tail) e less refl refl
    by false e = by_tests index tail queue o false true (index == 0) (nat_le (index + queue) tail) e less refl refl

-- Where there are items and the index isn't past them.
within : (index tail queue : ℕ) (o : Overflow) (c d : Bool) → 1 ≤ tail → index ≤ tail → (index == 0) ≡ c → nat_le (index + queue) tail ≡ d
    → fetch index tail queue o ≡ (if c then Some tail else (if d then Some (overflows_to o tail queue) else Some index))
within index tail queue o c d some l ec ed = by_tests index tail queue o false false c d (grind (arith, nat_tests)) (grind (arith, nat_tests)) ec ed

finds_some : (index tail queue : ℕ) (o : Overflow) → 1 ≤ tail → index ≤ tail → fetch index tail queue o ≢ None
finds_some index tail queue o some l = rw (within index tail queue o (index == 0) (nat_le (index + queue) tail) some l refl refl) (never (index == 0) (nat_le (index + queue) tail))
  where
    never : (c d : Bool) → (if c then Some tail else (if d then Some (overflows_to o tail queue) else Some index)) ≢ None
    never true d = λ e. cc
    never false true = λ e. cc
    never false false = λ e. cc

kept : (index tail queue : ℕ) (o : Overflow) (number : ℕ) → 1 ≤ queue → fetch index tail queue o ≡ Some number → tail < number + queue
kept index tail queue o number some e = let found = (fetch_found index tail queue o number some e).kept in omega (arith, found)

first : (tail queue : ℕ) (o : Overflow) → 1 ≤ tail → fetch 0 tail queue o ≡ Some tail
first tail queue o some = within 0 tail queue o true (nat_le (0 + queue) tail) some (omega arith) refl refl

next : (index tail queue : ℕ) (o : Overflow) → 1 ≤ index → index ≤ tail → tail < index + queue → fetch index tail queue o ≡ Some index
next index tail queue o some l fits = within index tail queue o false false (omega (arith, some, l)) l (grind (arith, nat_tests)) (grind (arith, nat_tests))

roomy : (index tail few many : ℕ) (o : Overflow) → tail ≤ few → tail ≤ many → fetch index tail few o ≡ fetch index tail many o
roomy index tail few many o l m = by (index == 0) refl
  where
    all : (queue : ℕ) → tail ≤ queue → (index == 0) ≡ false → nat_le (index + queue) tail ≡ false
    all queue fits e = grind (arith, nat_tests)

    by : (c : Bool) → (index == 0) ≡ c → fetch index tail few o ≡ fetch index tail many o
    by true e = by_tests index tail few o (tail == 0) (nat_lt tail index) true (nat_le (index + few) tail) refl refl e refl
        ∙ sym (by_tests index tail many o (tail == 0) (nat_lt tail index) true (nat_le (index + many) tail) refl refl e refl)
    by false e = by_tests index tail few o (tail == 0) (nat_lt tail index) false false refl refl e (all few l e)
        ∙ sym (by_tests index tail many o (tail == 0) (nat_lt tail index) false false refl refl e (all many m e))

pub fetches_find : FetchesFind
unfolding fetch
fetches_find = record {
  empty = λ index queue o. refl;
  past = past;
  some = finds_some;
  bounds = bounds;
  kept = kept;
  first = first;
  next = next;
  roomy = roomy;
}

newest : (index tail queue : ℕ) → 1 ≤ tail → index + queue ≤ tail → fetch index tail queue Newest ≡ Some tail
newest index tail queue some l = by (index == 0) refl
  where
    by : (c : Bool) → (index == 0) ≡ c → fetch index tail queue Newest ≡ Some tail
    by true e = within index tail queue Newest true true some (omega (arith, l)) e (grind (arith, nat_tests))
    by false e = within index tail queue Newest false true some (omega (arith, l)) e (grind (arith, nat_tests))

oldest : (index tail queue : ℕ) → 1 ≤ index → 1 ≤ queue → index + queue ≤ tail → fetch index tail queue Oldest ≡ Some (tail - queue + 1)
oldest index tail queue from some l =
    within index tail queue Oldest false true (omega (arith, from, l)) (omega (arith, l)) (grind (arith, nat_tests)) (grind (arith, nat_tests))
    ∙ ap Some (omega (arith, some, l))

pub fetches_overflow : FetchesOverflow
fetches_overflow = record { newest = newest; oldest = oldest }
