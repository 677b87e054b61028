-- The DAG file that is made is accepted: it has the four components.
use Rattle.std.proofs.Common.{◌≡◌, ◌++◌, ◌==◌, ℕ, List, [], ◌∷◌, Bool, true, false, if◌then◌else◌, Option, Some, None, unwrap_or, is_some, length, map, option_map, codes, refl, ap, ◌∙◌, arith}
use Rattle.std.specs.Option.{option_or}
use Rattle.std.specs.Str.{IsUtf8, is_utf8, chars}
use Rattle.std.proofs.lemmas.Bool.{ne_eqb}
use Rattle.std.proofs.lemmas.Str.{is_utf8-from_IsUtf8, IsUtf8-append, IsUtf8-from_is_utf8}
use Rattle.cy_text.specs.Fields.{Fields, Nothing}
use Rattle.cy_config.specs.Checks.{first_misfit, index_text}
use Rattle.cy_dag.specs.DagFile.{component_of, component_refusal, components_of, components_refusal, dag_refusal}
use Rattle.cy_dag.specs.Format.{dag_field}
use Rattle.cy_dag.specs.declared.dag.DagComponent.{DagComponent}
use Rattle.cy_dag.specs.declared.error.DagError.{DagError}
use Rattle.cy_dag.specs.declared.error.DagError.TheVariants.{Missing, Shape}
use Rattle.cy_dag.specs.declared.format.DagMessage.TheVariants.{File, Settings}
use Rattle.cy_make.specs.declared.config.Config.{Config}
use Rattle.cy_make.specs.declared.config.Config.TheVariants.{Adder, Band, Last8, Late, Dag}
use Rattle.cy_make.specs.Texts.{and_said, component, config_said, dag_fields, holds, says, suffix_of}

-- A component as the file says it, whatever the name of its file.
abbrev pub said : (name class file : List ℕ) (channels : List (List ℕ)) → DagComponent
said name class file channels = record {
  class_name = class;
  name = name;
  config_file_path = file;
  readers = map (λ c. record { channel = c; queue = 1 }) channels;
  interval = None;
}

abbrev pub adder : List ℕ → DagComponent
adder file = said (codes "adder") (codes "SumComponent") file (codes "/a" ∷ codes "/b" ∷ [])

abbrev pub band : List ℕ → DagComponent
band file = said (codes "band") (codes "FilterComponent") file (codes "/sum" ∷ [])

abbrev pub last8 : List ℕ → DagComponent
last8 file = said (codes "last8") (codes "WindowComponent") file (codes "/band" ∷ [])

abbrev pub late : List ℕ → DagComponent
late file = said (codes "late") (codes "HoldComponent") file (codes "/a" ∷ [])

abbrev pub four : (a b c d : List ℕ) → List DagComponent
four a b c d = adder a ∷ band b ∷ last8 c ∷ late d ∷ []

-- a text as it is looked up
abbrev read_as : List ℕ → Bool → List ℕ
read_as file b = unwrap_or (if b then Some file else None) []

abbrev settings : (name file : List ℕ) (channels : List (List ℕ)) → Fields
settings name file channels = and_said Nothing (config_said name file channels)

abbrev fields : (name class file : List ℕ) (channels : List (List ℕ)) → Fields
fields name class file channels = and_said Nothing (says (codes "class_name") class ∷ holds (codes "config") (config_said name file channels) ∷ [])

-- what the file says of each component
adder_said : (file : List ℕ) → is_utf8 file ≡ true → component_of (fields (codes "adder") (codes "SumComponent") file (codes "/a" ∷ codes "/b" ∷ [])) ≡ adder file
unfolding is_utf8 chars lib.Utf8.encode
adder_said file e = ap (λ (b : Bool). adder (read_as file b)) e

band_said : (file : List ℕ) → is_utf8 file ≡ true → component_of (fields (codes "band") (codes "FilterComponent") file (codes "/sum" ∷ [])) ≡ band file
unfolding is_utf8 chars lib.Utf8.encode
band_said file e = ap (λ (b : Bool). band (read_as file b)) e

last8_said : (file : List ℕ) → is_utf8 file ≡ true → component_of (fields (codes "last8") (codes "WindowComponent") file (codes "/band" ∷ [])) ≡ last8 file
unfolding is_utf8 chars lib.Utf8.encode
last8_said file e = ap (λ (b : Bool). last8 (read_as file b)) e

late_said : (file : List ℕ) → is_utf8 file ≡ true → component_of (fields (codes "late") (codes "HoldComponent") file (codes "/a" ∷ [])) ≡ late file
unfolding is_utf8 chars lib.Utf8.encode
late_said file e = ap (λ (b : Bool). late (read_as file b)) e

-- the whole file, by the names of the component files
abbrev whole : (a b c d : List ℕ) → Fields
whole a b c d = and_said Nothing (holds (codes "module_config") (says (codes "module_library") (codes "own")
    ∷ component (codes "adder") (codes "SumComponent") a (codes "/a" ∷ codes "/b" ∷ [])
    ∷ component (codes "band") (codes "FilterComponent") b (codes "/sum" ∷ [])
    ∷ component (codes "last8") (codes "WindowComponent") c (codes "/band" ∷ [])
    ∷ component (codes "late") (codes "HoldComponent") d (codes "/a" ∷ []) ∷ []) ∷ [])

all_said : (a b c d : List ℕ) → is_utf8 a ≡ true → is_utf8 b ≡ true → is_utf8 c ≡ true → is_utf8 d ≡ true → components_of (whole a b c d) ≡ four a b c d
all_said a b c d ea eb ec ed = (λ i. adder_said a ea i ∷ band_said b eb i ∷ last8_said c ec i ∷ late_said d ed i ∷ [])

-- its fields are of their kinds
both : {A : Type 0} (x y : Option A) → x ≡ None → y ≡ None → option_or x y ≡ None
both x y ex ey = rw (ex, ey) refl

abbrev misplaced : (file path : List ℕ) → Bool → Option (List ℕ)
misplaced file path b = option_or (option_or (if is_some (if b then Some file else None) then None else Some (path ++ codes "config_file_path" ++ [])) None) None

adder_fits : (file path : List ℕ) → is_utf8 file ≡ true → first_misfit dag_field Settings path (settings (codes "adder") file (codes "/a" ∷ codes "/b" ∷ [])) ≡ None
unfolding is_utf8 chars lib.Utf8.encode
adder_fits file path e = ap (misplaced file path) e

band_fits : (file path : List ℕ) → is_utf8 file ≡ true → first_misfit dag_field Settings path (settings (codes "band") file (codes "/sum" ∷ [])) ≡ None
unfolding is_utf8 chars lib.Utf8.encode
band_fits file path e = ap (λ (b : Bool). option_or (if is_some (if b then Some file else None) then None else Some (path ++ codes "config_file_path" ++ [])) None) e

last8_fits : (file path : List ℕ) → is_utf8 file ≡ true → first_misfit dag_field Settings path (settings (codes "last8") file (codes "/band" ∷ [])) ≡ None
unfolding is_utf8 chars lib.Utf8.encode
last8_fits file path e = ap (λ (b : Bool). option_or (if is_some (if b then Some file else None) then None else Some (path ++ codes "config_file_path" ++ [])) None) e

late_fits : (file path : List ℕ) → is_utf8 file ≡ true → first_misfit dag_field Settings path (settings (codes "late") file (codes "/a" ∷ [])) ≡ None
unfolding is_utf8 chars lib.Utf8.encode
late_fits file path e = ap (λ (b : Bool). option_or (if is_some (if b then Some file else None) then None else Some (path ++ codes "config_file_path" ++ [])) None) e

-- where the settings of a component stand, by its number
abbrev place : ℕ → List ℕ
place n =
    let all = ([] ++ codes "module_config" ++ index_text (Some 0)) ++ codes "." in
    let one = (all ++ codes "components" ++ index_text (Some n)) ++ codes "." in
    (one ++ codes "config" ++ index_text None) ++ codes "."

all_fit : (a b c d : List ℕ) → is_utf8 a ≡ true → is_utf8 b ≡ true → is_utf8 c ≡ true → is_utf8 d ≡ true → first_misfit dag_field File [] (whole a b c d) ≡ None
unfolding is_utf8 chars lib.Utf8.encode
all_fit a b c d ea eb ec ed = both _ _ (both _ _ (both _ _ (adder_fits a (place 0) ea) (band_fits b (place 1) eb)) (last8_fits c (place 2) ec)) (late_fits d (place 3) ed)

-- nothing of it is refused
abbrev HasName : List ℕ → Type 0
HasName file = (length file == 0) ≡ false

abbrev unless_named : ℕ → Bool → Option DagError
unless_named number b = option_or (if b then Some (Missing number (codes "config_file_path")) else None) None

adder_taken : (file : List ℕ) → HasName file → component_refusal [] (adder file) ≡ None
adder_taken file e = ap (unless_named 0) e

band_taken : (a file : List ℕ) → HasName file → component_refusal (adder a ∷ []) (band file) ≡ None
band_taken a file e = ap (unless_named 1) e

last8_taken : (a b file : List ℕ) → HasName file → component_refusal (adder a ∷ band b ∷ []) (last8 file) ≡ None
last8_taken a b file e = ap (unless_named 2) e

late_taken : (a b c file : List ℕ) → HasName file → component_refusal (adder a ∷ band b ∷ last8 c ∷ []) (late file) ≡ None
late_taken a b c file e = ap (unless_named 3) e

all_taken : (a b c d : List ℕ) → HasName a → HasName b → HasName c → HasName d → components_refusal (four a b c d) ≡ None
all_taken a b c d ha hb hc hd = both _ _ (adder_taken a ha) (both _ _ (band_taken a b hb) (both _ _ (last8_taken a b c hc) (both _ _ (late_taken a b c d hd) refl)))

whole_taken : (a b c d : List ℕ) → is_utf8 a ≡ true → is_utf8 b ≡ true → is_utf8 c ≡ true → is_utf8 d ≡ true → HasName a → HasName b → HasName c → HasName d → dag_refusal (whole a b c d) ≡ None
whole_taken a b c d ea eb ec ed ha hb hc hd =
    let named : components_refusal (components_of (whole a b c d)) ≡ None = ap components_refusal (all_said a b c d ea eb ec ed) ∙ all_taken a b c d ha hb hc hd in
    both _ _ (ap (option_map (λ path. Shape path)) (all_fit a b c d ea eb ec ed)) (both _ _ (both _ _ named refl) refl)

-- The names of component files are texts, and not empty.
suffix_text : (c : Config) → is_utf8 (suffix_of c) ≡ true
unfolding is_utf8 chars lib.Utf8.encode
suffix_text Adder = refl
suffix_text Band = refl
suffix_text Last8 = refl
suffix_text Late = refl
suffix_text Dag = refl

name_text : (prefix : List ℕ) (c : Config) → IsUtf8 prefix → is_utf8 (prefix ++ suffix_of c) ≡ true
name_text prefix c is = is_utf8-from_IsUtf8 (prefix ++ suffix_of c) (IsUtf8-append prefix (suffix_of c) is (IsUtf8-from_is_utf8 (suffix_of c) (suffix_text c)))

named : (prefix suffix : List ℕ) → HasName suffix → HasName (prefix ++ suffix)
named [] suffix some = some
named (b ∷ prefix) suffix some = ne_eqb _ _ (λ e. omega (arith, e))

-- What is made.
abbrev pub made : List ℕ → List DagComponent
made prefix = four (prefix ++ suffix_of Adder) (prefix ++ suffix_of Band) (prefix ++ suffix_of Last8) (prefix ++ suffix_of Late)

pub dag_said : (prefix : List ℕ) → IsUtf8 prefix → components_of (dag_fields prefix) ≡ made prefix
unfolding dag_fields
dag_said prefix is = all_said (prefix ++ suffix_of Adder) (prefix ++ suffix_of Band) (prefix ++ suffix_of Last8) (prefix ++ suffix_of Late) (name_text prefix Adder is) (name_text prefix Band is) (name_text prefix Last8 is) (name_text prefix Late is)

pub dag_taken : (prefix : List ℕ) → IsUtf8 prefix → dag_refusal (dag_fields prefix) ≡ None
unfolding dag_fields
dag_taken prefix is =
    whole_taken (prefix ++ suffix_of Adder) (prefix ++ suffix_of Band) (prefix ++ suffix_of Last8) (prefix ++ suffix_of Late) (name_text prefix Adder is) (name_text prefix Band is) (name_text prefix Last8 is) (name_text prefix Late is)
    (named prefix (suffix_of Adder) refl) (named prefix (suffix_of Band) refl) (named prefix (suffix_of Last8) refl) (named prefix (suffix_of Late) refl)
