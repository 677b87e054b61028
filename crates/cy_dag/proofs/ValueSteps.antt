-- What a component file says of channels, and why it is refused.
use Rattle.std.proofs.Common.{ℕ, zero, suc, arith, ◌==◌, Bor, [], ◌∷◌, ◌≤◌, ◌||◌, length, is_none, map, unwrap_or, ◌≡◌, Bool, true, false, Some, None, List, refl, sym, ap, ◌∙◌}
use Rattle.std.proofs.lemmas.Bool.{false≢true, le-leb}
use Rattle.std.proofs.lemmas.List.{length-map}
use Rattle.std.specs.List.{list_any}
use Rattle.cy_text.specs.Entries.{held_of}
use Rattle.cy_text.specs.Fields.{Held}
use Rattle.cy_text.specs.declared.tree.Value.{Value}
use Rattle.cy_dag.specs.Values.{field_number, is_path_length, path_refusal}
use Rattle.cy_dag.specs.declared.error.DagError.TheVariants.{PathNumber}

-- What isn't empty has something.
pub some_where : (n : ℕ) (b : Bool) → b ≡ (n == 0) → b ≡ false → 1 ≤ n
some_where zero b is fails = absurd (false≢true (sym fails ∙ is))
some_where (suc n) b is fails = omega arith

-- The length of a path, and whether each of its values is a number.
within : (n : ℕ) → 1 ≤ n → n ≤ 16 → is_path_length n ≡ true
within n some few = rw (le-leb 1 n some, le-leb n 16 few) refl

any_shown : (path : List (Bor Value)) → list_any (λ held. is_none (field_number held)) (map (λ v. held_of v.now) path) ≡ list_any (λ v. is_none (field_number (held_of v.now))) path
any_shown [] = refl
any_shown (v ∷ vs) = ap (λ (b : Bool). is_none (field_number (held_of v.now)) || b) (any_shown vs)

module _ (component place : ℕ) (path : List (Bor Value)) (held : List Held) (shown : map (λ v. held_of v.now) path ≡ held) (some : 1 ≤ length path) (few : length path ≤ 16) where
  long : is_path_length (length held) ≡ true
  long = let same : length held ≡ length path = ap length (sym shown) ∙ length-map path (λ (v : Bor Value). held_of v.now) in ap is_path_length same ∙ within (length path) some few

  any : (b : Bool) → b ≡ list_any (λ v. is_none (field_number (held_of v.now))) path → list_any (λ h. is_none (field_number h)) held ≡ b
  any b is = ap (list_any (λ h. is_none (field_number h))) (sym shown) ∙ any_shown path ∙ sym is

  pub path_due : (b : Bool) → b ≡ list_any (λ v. is_none (field_number (held_of v.now))) path → b ≡ true → path_refusal component place held ≡ Some (PathNumber component place)
  path_due b is holds = rw (long, any b is ∙ holds) refl

  pub path_accepted : (b : Bool) → b ≡ list_any (λ v. is_none (field_number (held_of v.now))) path → b ≡ false → path_refusal component place held ≡ None
  path_accepted b is fails = rw (long, any b is ∙ fails) refl

-- The numbers of a path, by its values.
pub path_shown : (xs : List (Bor Value)) → map (λ v. unwrap_or (field_number (held_of v)) 0) (map (λ m. m.now) xs) ≡ map (λ held. unwrap_or (field_number held) 0) (map (λ m. held_of m.now) xs)
path_shown [] = refl
path_shown (x ∷ xs) = ap (λ (ns : List ℕ). unwrap_or (field_number (held_of x.now)) 0 ∷ ns) (path_shown xs)
