-- How many processors groups ask for, at most.
use Rattle.std.proofs.Common.{ℕ, zero, suc, ℤ, pos, negsuc, ◌≡◌, ◌*◌, ◌^◌, ◌<◌, ◌≤◌, nat_lt, Bool, true, false, if◌then◌else◌, Option, Some, None, unwrap_or, option_and_then, List, [], ◌∷◌, length, map, codes, refl, arith}
use Rattle.std.proofs.lemmas.Bool.{ltb-true}
use Rattle.std.proofs.lemmas.List.{length-map}
use Rattle.std.proofs.lemmas.List.Sums.{sum_by-cons}
use Rattle.cy_text.specs.Fields.{Fields}
use Rattle.cy_config.specs.Kinds.{u32_of}
use Rattle.cy_config.specs.Lookups.{whole_under, messages_under}
use Rattle.cy_sched.specs.SchedFile.{at_least_one, group_of, groups_or, groups_of, written_groups, default_processors, processors_of, message_in}
use Rattle.cy_sched.specs.declared.sched.Group.{Group}

small_or_one : (n : ℕ) (b : Bool) → (b ≡ true → n < 2 ^ 32) → at_least_one (if b then Some n else None) ≤ 4294967295
small_or_one zero true small = omega arith
small_or_one (suc n) true small = omega (arith, small refl)
small_or_one n false small = omega arith

number_fits : (o : Option ℤ) → at_least_one (option_and_then u32_of o) ≤ 4294967295
number_fits None = omega arith
number_fits (Some (pos n)) = small_or_one n (nat_lt n (2 ^ 32)) (ltb-true n (2 ^ 32))
number_fits (Some (negsuc n)) = omega arith

small_or_none : (n : ℕ) (b : Bool) → (b ≡ true → n < 2 ^ 32) → unwrap_or (if b then Some n else None) 0 ≤ 4294967295
small_or_none n true small = omega (arith, small refl)
small_or_none n false small = omega arith

default_fits : (o : Option ℤ) → unwrap_or (option_and_then u32_of o) 0 ≤ 4294967295
default_fits None = omega arith
default_fits (Some (pos n)) = small_or_none n (nat_lt n (2 ^ 32)) (ltb-true n (2 ^ 32))
default_fits (Some (negsuc n)) = omega arith

sum_fits : (ms : List Fields) → processors_of (map group_of ms) ≤ 4294967295 * length ms
sum_fits [] = omega arith
sum_fits (m ∷ ms) = omega (arith, sum_fits ms, number_fits (whole_under (codes "processor_num") m), sum_by-cons (λ (g : Group). g.processors) (group_of m) (map group_of ms))

or_fits : (written : List Group) (n : ℕ) → n ≤ 4294967295 → processors_of written ≤ 4294967295 * length written
    → processors_of (groups_or written n) ≤ 4294967295 * length (groups_or written n)
or_fits [] n small fits = omega arith
or_fits (g ∷ gs) n small fits = fits

pub groups_fit : (conf : Fields) → length (groups_of conf) ≤ 4294967295 → processors_of (groups_of conf) < 2 ^ 64
groups_fit conf few =
    let fits = or_fits (written_groups conf) (default_processors conf) (default_fits (whole_under (codes "default_proc_num") conf))
    (omega (arith, sum_fits (messages_under (codes "groups") (message_in (codes "classic_conf") conf)), length-map (messages_under (codes "groups") (message_in (codes "classic_conf") conf)) group_of)) in
    omega (arith, few, fits)
