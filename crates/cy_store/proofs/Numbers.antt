-- What the keys of a set say, as the numbers of writes that they stand for.
use Rattle.std.proofs.Common.{◌≡◌, ℕ, List, Bool, true, false, cond, ◌||◌, refl, sym, ap, ◌∙◌}
use Rattle.std.specs.Ordering.{nat_cmp, eq_by_cmp}
use Rattle.std.specs.Cmp.{eq_by_cmp_equiv, nat_cmp_total}
use Rattle.std.specs.FinSet as set
use Rattle.std.specs.BTreeMap.{is_at}
use Rattle.std.specs.BTreeSet.{BTreeSet, Updates}
use Rattle.std.specs.List.{list_any}

cond_true : (b x : Bool) → cond b true x ≡ (b || x)
cond_true true x = refl
cond_true false x = refl

-- numbers with one more
pub numbers-insert : (s n : BTreeSet ℕ) (k : ℕ) → Updates nat_cmp s n k true → set.from_list {R = nat_cmp} n.keys ≡ set.insert (set.from_list {R = nat_cmp} s.keys) k
numbers-insert s n k h = set.same_set nat_cmp_total set.nat_cmp-IsAntisymmetric (set.from_list n.keys) (set.insert (set.from_list s.keys) k) (λ q.
    set.contains-from_list nat_cmp_total n.keys q
    ∙ h.0 q
    ∙ cond_true (eq_by_cmp nat_cmp k q) (list_any (is_at (nat_cmp q)) s.keys)
    ∙ ap (λ (b : Bool). b || list_any (is_at (nat_cmp q)) s.keys) ((eq_by_cmp_equiv nat_cmp_total).symm k q)
    ∙ ap (λ (b : Bool). eq_by_cmp nat_cmp q k || b) (sym (set.contains-from_list nat_cmp_total s.keys q))
    ∙ sym (set.contains-insert nat_cmp_total (set.from_list s.keys) k q))

-- whether a number is among them
pub contains_number : (ks : List ℕ) (q : ℕ) → set.contains (set.from_list {R = nat_cmp} ks) q ≡ list_any (is_at (nat_cmp q)) ks
contains_number ks q = set.contains-from_list nat_cmp_total ks q
