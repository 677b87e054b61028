-- The files that are made are found under their names.
use Rattle.std.proofs.Common.{◌≡◌, ◌++◌, ℕ, List, [], ◌∷◌, Bool, false, Some, refl, ap, ◌∙◌, cond, codes}
use Rattle.std.specs.FinMap.{get, insert, get-insert}
use Rattle.std.proofs.lemmas.Cmp.{nat_list_cmp_total}
use Rattle.std.specs.Str.{bytes_eq}
use Rattle.std.proofs.lemmas.Bool.{eq-eqb}
use Rattle.std.proofs.lemmas.Map.Text.{is_eq-slice_cmp}
use Rattle.cy_store.specs.Files.{Files}
use Rattle.cy_writer.proofs.Puts.{get-inserted}
use Rattle.cy_make.specs.declared.config.Config.{Config}
use Rattle.cy_make.specs.declared.config.Config.TheVariants.{Adder, Band, Last8, Late, Dag}
use Rattle.cy_make.specs.Inputs.{all_configs, made_record, record_name, with_config, with_configs, with_inputs}
use Rattle.cy_make.specs.Texts.{suffix_of, text_of}

-- behind one prefix
behind : (prefix a b : List ℕ) → bytes_eq (prefix ++ a) (prefix ++ b) ≡ bytes_eq a b
behind [] a b = refl
behind (x ∷ prefix) a b = rw (eq-eqb x x refl) (behind prefix a b)

-- a file of another name
other : (m : Files) (prefix made asked bytes : List ℕ) → bytes_eq asked made ≡ false → get (insert m (prefix ++ made) bytes) (prefix ++ asked) ≡ get m (prefix ++ asked)
other m prefix made asked bytes differ =
    get-insert nat_list_cmp_total m (prefix ++ made) bytes (prefix ++ asked)
    ∙ ap (λ (b : Bool). cond b (Some bytes) (get m (prefix ++ asked))) (is_eq-slice_cmp (prefix ++ asked) (prefix ++ made) ∙ behind prefix asked made ∙ differ)

module _ (n : ℕ) (prefix : List ℕ) (files : Files) where
  abbrev one : Files
  one = with_config prefix files Adder

  abbrev two : Files
  two = with_config prefix one Band

  abbrev three : Files
  three = with_config prefix two Last8

  abbrev four : Files
  four = with_config prefix three Late

  -- what was made before the record, and before the file of a configuration
  before_record : (asked : List ℕ) → bytes_eq asked (codes ".record") ≡ false → get (with_inputs n prefix files) (prefix ++ asked) ≡ get (with_config prefix four Dag) (prefix ++ asked)
  before_record asked differ = other (with_config prefix four Dag) prefix (codes ".record") asked (made_record n prefix) differ

  before : (m : Files) (made : Config) (asked : List ℕ) → bytes_eq asked (suffix_of made) ≡ false → get (with_config prefix m made) (prefix ++ asked) ≡ get m (prefix ++ asked)
  before m made asked differ = other m prefix (suffix_of made) asked (text_of prefix made) differ

  pub config_found : (c : Config) → get (with_inputs n prefix files) (prefix ++ suffix_of c) ≡ Some (text_of prefix c)
  config_found Adder =
      before_record (suffix_of Adder) refl ∙ before four Dag (suffix_of Adder) refl ∙ before three Late (suffix_of Adder) refl ∙ before two Last8 (suffix_of Adder) refl ∙ before one Band (suffix_of Adder) refl
      ∙ get-inserted files (prefix ++ suffix_of Adder) (text_of prefix Adder)
  config_found Band =
      before_record (suffix_of Band) refl ∙ before four Dag (suffix_of Band) refl ∙ before three Late (suffix_of Band) refl ∙ before two Last8 (suffix_of Band) refl
      ∙ get-inserted one (prefix ++ suffix_of Band) (text_of prefix Band)
  config_found Last8 =
      before_record (suffix_of Last8) refl ∙ before four Dag (suffix_of Last8) refl ∙ before three Late (suffix_of Last8) refl
      ∙ get-inserted two (prefix ++ suffix_of Last8) (text_of prefix Last8)
  config_found Late =
      before_record (suffix_of Late) refl ∙ before four Dag (suffix_of Late) refl
      ∙ get-inserted three (prefix ++ suffix_of Late) (text_of prefix Late)
  config_found Dag =
      before_record (suffix_of Dag) refl
      ∙ get-inserted four (prefix ++ suffix_of Dag) (text_of prefix Dag)

  pub record_found : get (with_inputs n prefix files) (record_name prefix) ≡ Some (made_record n prefix)
  record_found = get-inserted (with_configs prefix all_configs files) _ _
