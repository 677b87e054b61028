-- The words of `play`.
use Rattle.std.specs.Prelude.{ℕ, ◌==◌, ◌&&◌, not, Bool, true, false, if◌then◌else◌, List, []}
use Rattle.std.specs.Prelude.{◌∷◌, length, Option, Some, None, is_some, codes}
use Rattle.std.specs.Option.{option_map}
use Rattle.std.specs.Path.{rsplit_once}
use Rattle.std.specs.Str.{bytes_eq}
use Rattle.cy_msg.specs.Request.{Components, OfFiles, OfPass, Request, StopAt}
use Rattle.cy_args.specs.FilterWords.{◌>>=◌, all_messages, filter_asked, spelled_number}
use Rattle.cy_args.specs.Options.{Known, Options, flagged, valued}

-- What is asked of a play: what is replayed, the names of the record and of the trace that are
-- written, and whether one thread plays it.
pub record PlayWords : Type 0 where
  pub request : Request
  pub output : List ℕ
  pub trace : List ℕ
  pub serial : Bool

-- A serial play of all messages of a record, with no stop.
abbrev pub play_of_all : Components → (input output trace : List ℕ) → PlayWords
play_of_all components input output trace = record {
  request = record { components = components; input = input; filter = all_messages; stop = None };
  output = output;
  trace = trace;
  serial = true;
}

-- A stop: the name of a component and a time, which is a number, around the last `@` of a text. The
-- name is not empty.
abbrev pub stop_at : List ℕ → Option StopAt
stop_at text = do
  parts ← rsplit_once 64 text
  time ← spelled_number parts.1
  if length parts.0 == 0 then None else Some record { component = parts.0; time = time }

abbrev pub stop_or_none : Option (List ℕ) → Option (Option StopAt)
stop_or_none None = Some None
stop_or_none (Some text) = option_map Some (stop_at text)

-- What `play` knows.
abbrev pub play_known : List Known
play_known = valued (codes "dag") ∷ valued (codes "sched") ∷ valued (codes "record")
    ∷ valued (codes "out") ∷ valued (codes "trace") ∷ valued (codes "channels")
    ∷ valued (codes "drop") ∷ valued (codes "begin") ∷ valued (codes "end")
    ∷ valued (codes "stop") ∷ flagged (codes "serial") ∷ []

-- What the options say, where those are given that every `play` has.
unfoldable pub play_given : Options → Option PlayWords
play_given o = do
  dag ← o (codes "dag")
  input ← o (codes "record")
  output ← o (codes "out")
  trace ← o (codes "trace")
  filter ← filter_asked o
  stop ← stop_or_none (o (codes "stop"))
  Some record {
    request = record {
      components = OfFiles dag (o (codes "sched"));
      input = input;
      filter = filter;
      stop = stop;
    };
    output = output;
    trace = trace;
    serial = is_some (o (codes "serial"));
  }

-- Whether the names of what is written differ from each other and from the names of what is read.
abbrev pub is_some_of : List ℕ → Option (List ℕ) → Bool
is_some_of name None = false
is_some_of name (Some other) = bytes_eq name other

abbrev pub is_no_config : List ℕ → Components → Bool
is_no_config name (OfFiles dag sched) = not (bytes_eq name dag) && not (is_some_of name sched)
is_no_config name (OfPass from to) = true

abbrev pub is_other : List ℕ → PlayWords → Bool
is_other name w =
    not (bytes_eq name w.request.input) && is_no_config name w.request.components

unfoldable pub is_play : PlayWords → Bool
is_play w = not (bytes_eq w.output w.trace) && is_other w.output w && is_other w.trace w

abbrev pub where_play : PlayWords → Option PlayWords
where_play w = if is_play w then Some w else None

-- What they ask for: a play.
unfoldable pub play_asked : Options → Option PlayWords
play_asked o = play_given o >>= where_play
