-- Powers of ten.
use Rattle.std.proofs.Common.{ℕ, zero, suc, ◌≡◌, ◌+◌, ◌*◌, ◌<◌, ◌≤◌, ◌-◌, ◌^◌, Bool, true, false, eqb, ◌||◌, sym, ap, subst, ◌∙◌, add-one, inl, inr, arith}
use Rattle.std.proofs.Math.Nat.{pow-suc}
use Rattle.std.proofs.lemmas.Bool.{cases_lt, or_left, or_right, eq-eqb, ne_eqb}
use Rattle.cy_dag.specs.Values.{is_power_below}

-- They rise.
rise : (d e : ℕ) → 10 ^ e ≤ 10 ^ (e + d)
rise zero e = let same : e + 0 ≡ e = omega arith in rw same (omega arith)
rise (suc d) e =
    let same : e + suc d ≡ suc (e + d) = omega arith in
    rw same (omega (arith, rise d e, pow-suc 10 (e + d)))

pub at_most : (e : ℕ) → e < 20 → 10 ^ e ≤ 10 ^ 19
at_most e small = let same : e + (19 - e) ≡ 19 = omega arith in subst (λ (x : ℕ). 10 ^ e ≤ 10 ^ x) same (rise (19 - e) e)

pub power_found : (n e bound : ℕ) → e < bound → n ≡ 10 ^ e → is_power_below bound n ≡ true
power_found n e zero below is = absurd (omega arith)
power_found n e (suc bound) below is =
    elim (cases_lt e bound) [
      | inl less ↦ or_left (is_power_below bound n) (eqb (10 ^ bound) n) (power_found n e bound less is)
      | inr last ↦ let same : bound ≡ e = omega arith in or_right (is_power_below bound n) (eqb (10 ^ bound) n) (eq-eqb (10 ^ bound) n (ap (λ (x : ℕ). 10 ^ x) same ∙ sym is))
    ]

-- One power more.
pub power_more : (e power : ℕ) → power ≡ 10 ^ e → power * 10 ≡ 10 ^ (e + 1)
power_more e power is = ap (λ (x : ℕ). x * 10) is ∙ sym (pow-suc 10 e) ∙ ap (λ (x : ℕ). 10 ^ x) (sym (add-one e))

pub power_passed : (n e power : ℕ) → power ≡ 10 ^ e → (n ≡ power → ⊥) → is_power_below e n ≡ false → is_power_below (e + 1) n ≡ false
power_passed n e power is apart before =
    ap (λ (x : ℕ). is_power_below x n) (add-one e) ∙ ap (λ (b : Bool). b || eqb (10 ^ e) n) before ∙ ne_eqb (10 ^ e) n (λ same. apart (sym same ∙ sym is))
