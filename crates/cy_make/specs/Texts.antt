-- What the configuration files that are made say.
use Rattle.std.specs.Prelude.{ℕ, ◌≡◌, ◌≤◌, ◌<◌, List, [], ◌∷◌, ◌++◌, map, codes, length, Option}
use Rattle.std.specs.Prelude.{Some, None, Ok, All, Bool, true, false}
use Rattle.cy_text.specs.declared.tree.Span.{Span}
use Rattle.cy_text.specs.Fields.{Fields, Held, Nothing, And, Whole, Quote, Message}
use Rattle.cy_text.specs.Places.{fields_of_text}
use Rattle.cy_text.specs.Printable.{SameButSpans}
use Rattle.cy_text.specs.Printed.{printed}
use Rattle.cy_make.specs.declared.config.Config.{Config}
use Rattle.cy_make.specs.declared.config.Config.TheVariants.{Adder, Band, Last8, Late, Dag}

-- A field of a text that isn't printed yet: its name and what it holds.
pub record Said : Type 0 where
  pub name : List ℕ
  pub held : Held

abbrev pub nowhere : Span
nowhere = record { start = 0; end = 0 }

-- Fields behind others, in their order.
abbrev pub and_said : Fields → List Said → Fields
and_said before [] = before
and_said before (s ∷ rest) = and_said (And before s.name nowhere s.held) rest

abbrev pub says : List ℕ → List ℕ → Said
says name text = record { name = name; held = Quote text }

abbrev pub holds : List ℕ → List Said → Said
holds name fields = record { name = name; held = Message (and_said Nothing fields) }

-- What stands behind the prefix in the name of a configuration file.
abbrev pub suffix_of : Config → List ℕ
suffix_of Adder = codes ".adder.conf"
suffix_of Band = codes ".band.conf"
suffix_of Last8 = codes ".last8.conf"
suffix_of Late = codes ".late.conf"
suffix_of Dag = codes ".dag"

-- A component: its name, class, component file and readers' channels, in this order.
abbrev pub reader : List ℕ → Said
reader channel = holds (codes "readers") (says (codes "channel") channel ∷ [])

abbrev pub listed : Option (List ℕ) → List (List ℕ)
listed None = []
listed (Some channel) = channel ∷ []

abbrev pub config_said : (name file : List ℕ) (channels : List (List ℕ)) → List Said
config_said name file channels =
    says (codes "name") name ∷ says (codes "config_file_path") file ∷ map reader channels

abbrev pub component : (name class file : List ℕ) (channels : List (List ℕ)) → Said
component name class file channels =
    holds (codes "components") (says (codes "class_name") class
    ∷ holds (codes "config") (config_said name file channels) ∷ [])

-- The four components: adder sums both channels of the record, band lets through what of the sums
-- is not too great, last8 sums the last eight of these, and late sends the messages of /a later.
abbrev pub components : List ℕ → List Said
components prefix =
    component (codes "adder") (codes "SumComponent") (prefix ++ suffix_of Adder)
    (codes "/a" ∷ codes "/b" ∷ [])
    ∷ component (codes "band") (codes "FilterComponent") (prefix ++ suffix_of Band)
    (codes "/sum" ∷ [])
    ∷ component (codes "last8") (codes "WindowComponent") (prefix ++ suffix_of Last8)
    (codes "/band" ∷ [])
    ∷ component (codes "late") (codes "HoldComponent") (prefix ++ suffix_of Late)
    (codes "/a" ∷ []) ∷ []

-- The fields of the DAG file.
unfoldable pub dag_fields : List ℕ → Fields
dag_fields prefix =
    and_said Nothing (holds (codes "module_config") (says (codes "module_library") (codes "own")
    ∷ components prefix) ∷ [])

-- The texts of all, in the printed form. Each component file has the channel that the component
-- writes, and the parameters of its class.
abbrev pub text_of : List ℕ → Config → List ℕ
text_of prefix Adder = codes "out: \"/sum\"\n"
text_of prefix Band = codes "out: \"/band\"\nlo: -2000\nhi: 500\n"
text_of prefix Last8 = codes "out: \"/win\"\nn: 8\n"
text_of prefix Late = codes "out: \"/late\"\ndelay: 5000000\n"
text_of prefix Dag = printed (dag_fields prefix)

-- The most bytes that are read of a configuration file, and a length of the prefix with which none
-- of these texts has more.
abbrev pub longest_config : ℕ
longest_config = 16777216

abbrev pub longest_prefix : ℕ
longest_prefix = 1000000

abbrev pub TextsAreShort : Type 0
TextsAreShort = (prefix : List ℕ) (c : Config) → length prefix ≤ longest_prefix
    → length (text_of prefix c) ≤ longest_config

-- What each text says.
abbrev pub counts : List ℕ → Bool → ℕ → Said
counts name negative size = record { name = name; held = Whole negative size }

abbrev pub said_by : List ℕ → Config → Fields
said_by prefix Adder = and_said Nothing (says (codes "out") (codes "/sum") ∷ [])
said_by prefix Band = and_said Nothing (says (codes "out") (codes "/band")
    ∷ counts (codes "lo") true 2000 ∷ counts (codes "hi") false 500 ∷ [])
said_by prefix Last8 = and_said Nothing (says (codes "out") (codes "/win")
    ∷ counts (codes "n") false 8 ∷ [])
said_by prefix Late = and_said Nothing (says (codes "out") (codes "/late")
    ∷ counts (codes "delay") false 5000000 ∷ [])
said_by prefix Dag = dag_fields prefix

-- Each text is read, and says these fields, wherever they stand.
abbrev pub TextsAreRead : Type 0
TextsAreRead = (prefix : List ℕ) (c : Config) → All (λ byte. byte < 256) prefix
    → (fields : Fields) × (fields_of_text (text_of prefix c) ≡ Ok fields)
    × SameButSpans (said_by prefix c) fields
