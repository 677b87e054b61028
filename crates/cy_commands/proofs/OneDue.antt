-- What is due for the command that was read is due for whatever the words ask for, since they ask for no other.
use Rattle.std.proofs.Common.{◌≡◌, ℕ, List, Option, Some, None, Result, Ok, sym, subst}
use Rattle.cy_store.specs.Store.{StoreView}
use Rattle.cy_setup.specs.declared.setup.Replay.{Replay}
use Rattle.cy_args.specs.Asking.{IsReadAs, IsSomeAsked}
use Rattle.cy_args.specs.Command.{Command, Play, Asks, IsAsked}
use Rattle.cy_args.specs.PlayViews.{play_words_of}
use Rattle.cy_args.specs.declared.play_words.Play as code
use Rattle.cy_args.proofs.Asked.{one_asked}
use Rattle.cy_commands.specs.Begun.{HasBegun}
use Rattle.cy_commands.specs.Due.{IsDue, IsDueFor}
use Rattle.cy_commands.specs.Line.{bytes_of_line}
use Rattle.cy_commands.specs.PlayEnds.{SetsUp}
use Rattle.cy_commands.specs.declared.begun.Begun.{Begun}
use Rattle.cy_commands.specs.declared.begun.Begun.TheVariants as begun
use Rattle.cy_commands.specs.declared.due.Due.{Due}
use Rattle.cy_commands.specs.declared.status.Status.{Status}

-- all that is asked for is asked for by these words
kept_begun : (asks : Command → Type 0) (kept words : List (List ℕ)) (c : Command) (asked : Option Command) (old new : StoreView) (b : Begun)
    → ((k : Command) → asks k → Asks words k) → IsSomeAsked asks × (kept ≡ words) → Asks kept c → IsAsked asks asked → HasBegun (Some c) old new b → HasBegun asked old new b
kept_begun asks kept words c None old new b within read found is has = absurd (is read.0.0 read.0.1)
kept_begun asks kept words c (Some k) old new b within read found is has =
    let one = one_asked words c k (subst (λ (w : List (List ℕ)). Asks w c) read.1 found) (within k is) in
    subst (λ (x : Command). HasBegun (Some x) old new b) one has

pub read_begun : {E : Type 0} (asks : Command → Type 0) (r : Result (Option (List (List ℕ))) E) (kept words : List (List ℕ)) (c : Command) (asked : Option Command) (old new : StoreView) (b : Begun)
    → ((k : Command) → asks k → Asks words k) → r ≡ Ok (Some kept) → IsReadAs asks words r → Asks kept c → IsAsked asks asked → HasBegun (Some c) old new b → HasBegun asked old new b
read_begun asks r kept words c asked old new b within is_kept read = kept_begun asks kept words c asked old new b within (subst (IsReadAs asks words) is_kept read)

-- what was begun has ended
pub ended : (asked : Option Command) (old new : StoreView) (b : Begun) (due : Due) → b ≡ begun.Ended due → HasBegun asked old new b → IsDue asked old new due.status (bytes_of_line due.line)
ended asked old new b due is has = subst (HasBegun asked old new) is has

-- a play that was set up is played
pub played : (asked : Option Command) (old mid new : StoreView) (b : Begun) (play : code.Play) (x : Replay) (due : Status) (line : List ℕ) → b ≡ begun.SetUp play x → HasBegun asked old mid b
    → ((before : StoreView) → SetsUp (play_words_of play) before mid (Ok x) → IsDueFor (Play (play_words_of play)) before new due line) → IsDue asked old new due line
played asked old mid new b play x due line is has then =
    let is_begun = subst (HasBegun asked old mid) is has in
    subst (λ (a : Option Command). IsDue a old new due line) (sym is_begun.asked) (then old is_begun.came)
