-- The words of `make`.
use Rattle.std.specs.Prelude.{ℕ, ◌<◌, ◌≤◌, ◌||◌, nat_lt, if◌then◌else◌, List, [], ◌∷◌, length}
use Rattle.std.specs.Prelude.{Option, Some, None, codes}
use Rattle.std.specs.Option.{option_map}
use Rattle.cy_args.specs.FilterWords.{◌>>=◌, spelled_number}
use Rattle.cy_args.specs.Options.{Known, Options, placed}

-- The words of `make`: how many messages the record has, and with what the names of all files
-- begin.
pub record MakeWords : Type 0 where
  pub count : ℕ
  pub prefix : List ℕ

-- What `make` knows.
abbrev pub make_known : List Known
make_known = placed (codes "count") ∷ placed (codes "prefix") ∷ []

-- The most messages of a record that is made.
abbrev pub most_made : ℕ
most_made = 1048576

-- A number of messages: at least one.
abbrev pub where_made : ℕ → Option ℕ
where_made n = if nat_lt n 1 || nat_lt most_made n then None else Some n

abbrev pub count_of : List ℕ → Option ℕ
count_of text = spelled_number text >>= where_made

-- The longest prefix, in bytes. The DAG file has it four times, each byte of it in at most four,
-- and a configuration file has at most 16777216 bytes.
abbrev pub longest_prefix : ℕ
longest_prefix = 1000000

-- What a number and a prefix ask for.
abbrev pub made_by : (count prefix : List ℕ) → Option MakeWords
made_by count prefix =
    if nat_lt longest_prefix (length prefix) then None
    else option_map (λ n. record { count = n; prefix = prefix }) (count_of count)

abbrev pub make_asked : Options → Option MakeWords
make_asked o = do
  count ← o (codes "count")
  prefix ← o (codes "prefix")
  made_by count prefix

-- Words in form: some messages, not too many, and a prefix that is not too long.
pub record CanBeMade (w : MakeWords) : Type 0 where
  pub some : 0 < w.count
  pub few : w.count ≤ most_made
  pub short : length w.prefix ≤ longest_prefix
