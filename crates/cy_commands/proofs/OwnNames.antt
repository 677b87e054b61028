-- The names of the files that `make` writes are those of several files, for a store that tells its files.
use Rattle.std.specs.Prelude.{⊤}
use Rattle.std.proofs.Common.{◌≡◌, ℕ, zero, suc, ◌+◌, ◌-◌, ◌<◌, ◌≤◌, List, [], ◌∷◌, ◌++◌, length, map, take, drop, find, Bool, true, false, cond, Option, Some, None, IfSome, Result, Ok, Err, IsErrOf, refl, sym, ap, subst, ◌∙◌, arith, codes, bytes_eq, true≢false, slice_index_or}
use Rattle.std.specs.List.{Contains}
use Rattle.std.proofs.Math.Seq.{drop-append_seam}
use Rattle.std.proofs.lemmas.List.{get_or-take, length-append, length-take-le}
use Rattle.std.proofs.lemmas.List.Elements.{Contains-get_or}
use Rattle.std.proofs.lemmas.Slice.Eq.{bytes_eq-Decides}
use Rattle.cy_store.specs.Files.{Files}
use Rattle.cy_store.specs.Reads.{Accepts, Reads, Refuses}
use Rattle.cy_setup.specs.Apart.{IsApart, IsOneOf, apart_from, standard_output, unless_also}
use Rattle.cy_setup.specs.Comes.{IsJudged}
use Rattle.cy_setup.specs.declared.error.Refusal.{Refusal}
use Rattle.cy_setup.specs.declared.error.SetupError.{SetupError}
use Rattle.cy_setup.specs.declared.error.SetupError.TheVariants.{Refused}
use Rattle.cy_commands.specs.Commands.MakeWork.{made_suffixes, names_behind}
use Rattle.cy_commands.specs.private.MakeEnds.{AreOwn}
use Rattle.cy_commands.proofs.Leaving.{behind_prefix}

accepts_all : {refusal : Refusal} → (let r : Reads Refusal ⊤ = Accepts tt in r ≡ Refuses refusal) → ⊥
accepts_all is = absurd cc

is_false : (b : Bool) → (b ≡ true → ⊥) → b ≡ false
is_false true h = absurd (h refl)
is_false false h = refl

differ : (a b : List ℕ) → (a ≡ b → ⊥) → bytes_eq a b ≡ false
differ a b apart = is_false (bytes_eq a b) (λ same. apart ((bytes_eq-Decides a b).0 same))

skipped : (b : Bool) (y : List ℕ) (r : Option (List ℕ)) → cond b (Some y) r ≡ None → (b ≡ false) × (r ≡ None)
skipped true y r e = absurd cc
skipped false y r e = (refl, e)

-- behind one prefix names differ as what stands behind it
behind : (p a : List ℕ) (ends : List (List ℕ)) → find (bytes_eq a) ends ≡ None → find (bytes_eq (p ++ a)) (map (λ s. p ++ s) ends) ≡ None
behind p a [] none = refl
behind p a (b ∷ rest) none =
    let s = skipped (bytes_eq a b) b (find (bytes_eq a) rest) none in
    ap (λ t. cond t (Some (p ++ b)) (find (bytes_eq (p ++ a)) (map (λ s. p ++ s) rest))) (differ (p ++ a) (p ++ b) (behind_prefix p a b s.0)) ∙ behind p a rest s.1

-- a name that ends otherwise is another one
ends_so : (p a whole : List ℕ) → p ++ a ≡ whole → a ≡ drop (length whole - length a) whole
ends_so p a whole is =
    let at : length p ≡ length whole - length a = omega (arith, length-append p a, ap length is) in
    sym (drop-append_seam p a) ∙ ap (λ n. drop n (p ++ a)) at ∙ ap (drop (length whole - length a)) is

ends_otherwise : (p a whole : List ℕ) → bytes_eq a (drop (length whole - length a) whole) ≡ false → bytes_eq (p ++ a) whole ≡ false
ends_otherwise p a whole other = differ (p ++ a) whole (λ is. true≢false (sym ((bytes_eq-Decides a (drop (length whole - length a) whole)).1 (ends_so p a whole is)) ∙ other))

one : (p a : List ℕ) (ends : List (List ℕ)) → find (bytes_eq a) ends ≡ None → bytes_eq a (drop (length standard_output - length a) standard_output) ≡ false
    → find (bytes_eq (p ++ a)) (standard_output ∷ map (λ s. p ++ s) ends) ≡ None
one p a ends none other =
    ap (λ t. cond t (Some standard_output) (find (bytes_eq (p ++ a)) (map (λ s. p ++ s) ends))) (ends_otherwise p a standard_output other) ∙ behind p a ends none

-- none of the names is one before it, or standard output
pub none_before : (p : List ℕ) (i : ℕ) (d : List ℕ) → i < length (names_behind p) → find (bytes_eq (slice_index_or (names_behind p) i d)) (standard_output ∷ take i (names_behind p)) ≡ None
none_before p zero d h = one p (codes ".adder.conf") [] refl refl
none_before p (suc zero) d h = one p (codes ".band.conf") (take 1 made_suffixes) refl refl
none_before p (suc (suc zero)) d h = one p (codes ".last8.conf") (take 2 made_suffixes) refl refl
none_before p (suc (suc (suc zero))) d h = one p (codes ".late.conf") (take 3 made_suffixes) refl refl
none_before p (suc (suc (suc (suc zero)))) d h = one p (codes ".dag") (take 4 made_suffixes) refl refl
none_before p (suc (suc (suc (suc (suc zero))))) d h = one p (codes ".record") (take 5 made_suffixes) refl refl
none_before p (suc (suc (suc (suc (suc (suc zero)))))) d h = one p (codes ".out") (take 6 made_suffixes) refl refl
none_before p (suc (suc (suc (suc (suc (suc (suc zero))))))) d h = one p (codes ".trace") (take 7 made_suffixes) refl refl
none_before p (suc (suc (suc (suc (suc (suc (suc (suc i)))))))) d h = absurd (omega (arith, h))

among : (others names : List (List ℕ)) (i : ℕ) (o : List ℕ) → i ≤ length names → others ≡ standard_output ∷ take i names → Contains others o → Contains (standard_output ∷ names) o
among others names i o within at is = by (subst (λ (xs : List (List ℕ)). Contains xs o) at is)
  where
    by : Contains (standard_output ∷ take i names) o → Contains (standard_output ∷ names) o
    by (zero, h, e) = (zero, omega arith, e)
    by (suc k, h, e) =
        let less : k < i = omega (arith, h, length-take-le i names within) in
        (suc k, omega (arith, less, within), sym (get_or-take i names k o less) ∙ e)

-- one of them is said to be another one's file
pub own_err : {X : Type 0} (p : List ℕ) (names : List (List ℕ)) (i : ℕ) (d : List ℕ) (files : Option Files) (others : List (List ℕ)) (e : SetupError) → names ≡ names_behind p → i < length names → others ≡ standard_output ∷ take i names
    → (let r : Result X SetupError = Err e in IsApart files (slice_index_or names i d) others r) → (let r : Result X SetupError = Err e in AreOwn files names r)
own_err {X} p names i d files others e are within at apart = record {
  refused = λ refusal is. (
    untold files refusal is apart.told,
    (slice_index_or names i d, Contains-get_or names i d within, widened refusal (apart.one_file refusal is)),
  );
  unread = apart.unread;
}
  where
    none : find (bytes_eq (slice_index_or names i d)) others ≡ None
    none =
        ap (find (bytes_eq (slice_index_or names i d))) at
        ∙ subst (λ (ns : List (List ℕ)). i < length ns → find (bytes_eq (slice_index_or ns i d)) (standard_output ∷ take i ns) ≡ None) (sym are) (none_before p i d) within

    untold : (told : Option Files) (refusal : Refusal) → (let r : Result X SetupError = Err e in IsErrOf r (Refused refusal))
        → (let r : Result X SetupError = Err e in IfSome told (λ _. IsJudged (λ (x : X). tt) (apart_from (slice_index_or names i d) others) r)) → told ≡ None
    untold None refusal is h = refl
    untold (Some m) refusal is h =
        let accepted = ap (unless_also (slice_index_or names i d)) none in
        let refused = h.refused refusal is in
        absurd (accepts_all (sym accepted ∙ refused))

    widened : (refusal : Refusal) → IsOneOf (slice_index_or names i d) others refusal → IsOneOf (slice_index_or names i d) (standard_output ∷ names) refusal
    widened refusal o = record { other = o.other; among = among others names i o.other (omega (arith, within)) at o.among; is = o.is }

-- the same of a store that is as it was, and of a name that is one of them
pub own_said : {X : Type 0} (p : List ℕ) (names : List (List ℕ)) (i : ℕ) (d : List ℕ) (files mid : Option Files) (name : List ℕ) (others : List (List ℕ)) (e : SetupError) → mid ≡ files → name ≡ slice_index_or names i d → names ≡ names_behind p → i < length names
    → others ≡ standard_output ∷ take i names → (let r : Result X SetupError = Err e in IsApart mid name others r) → (let r : Result X SetupError = Err e in AreOwn files names r)
own_said {X} p names i d files mid name others e same named are within at apart =
    let here = subst (λ (told : Option Files). let r : Result X SetupError = Err e in IsApart told name others r) same apart in
    own_err {X = X} p names i d files others e are within at (subst (λ (n : List ℕ). let r : Result X SetupError = Err e in IsApart files n others r) named here)
