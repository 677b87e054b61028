-- What `make` makes.
use Rattle.std.specs.Prelude.{ℕ, ◌≡◌, ◌≤◌, ◌++◌, List, [], ◌∷◌, length, map, codes, Some, None}
use Rattle.std.specs.FinMap.{empty}
use Rattle.cy_store.specs.Files.{Files}
use Rattle.cy_store.specs.Write.{after_writes}
use Rattle.cy_section.specs.RecordText.{IsRecordText}
use Rattle.cy_make.specs.declared.config.Config.{Config}
use Rattle.cy_make.specs.declared.config.Config.TheVariants.{Dag}
use Rattle.cy_make.specs.Messages.{channels_of, messages_to}
use Rattle.cy_make.specs.Texts.{suffix_of, text_of}
use Rattle.cy_make.specs.Inputs.{all_configs, record_name, made_record, input_writes, with_inputs}
use Rattle.cy_setup.specs.declared.text.TheConstants.{LONGEST_CONFIG}
use Rattle.cy_msg.specs.Request.{OfFiles}
use Rattle.cy_commands.specs.Work.{IsMadeOf, Work}
use Rattle.cy_args.specs.Command.{Asks, Make}
use Rattle.cy_args.specs.MakeWords.{MakeWords}
use Rattle.cy_args.specs.PlayWords.{PlayWords, play_of_all}
use Rattle.cy_commands.specs.Commands.PlayWork.{IsPlayWork, replayed_in}

-- A serial play of all messages of the record that is made, through the components that are made,
-- with the default scheduler.
abbrev pub play_made : MakeWords → PlayWords
play_made w = play_of_all (OfFiles (w.prefix ++ suffix_of Dag) None) (record_name w.prefix)
    (w.prefix ++ codes ".out") (w.prefix ++ codes ".trace")

-- The names of all files that it writes.
abbrev pub made_suffixes : List (List ℕ)
made_suffixes =
    map suffix_of all_configs ++ codes ".record" ∷ codes ".out" ∷ codes ".trace" ∷ []

abbrev pub names_behind : (prefix : List ℕ) → List (List ℕ)
names_behind prefix = map (λ suffix. prefix ++ suffix) made_suffixes

abbrev pub made_names : MakeWords → List (List ℕ)
made_names w = names_behind w.prefix

-- The files that are played: those that are made, and no others.
abbrev pub made_files : MakeWords → Files
made_files w = with_inputs w.count w.prefix empty

-- It writes the files of a play and then what `play` makes of these files, after which all of them
-- have their texts and every other name is as before; and it prints the line of `play`.
pub record IsMakeWork (w : MakeWords) (work : Work) : Type 0 where
  pub played : Work
  pub by_play : IsMadeOf (replayed_in (play_made w)) (IsPlayWork (play_made w))
      (Some (made_files w)) played
  pub record_text : IsRecordText (channels_of w.count) (messages_to w.count)
      (made_record w.count w.prefix)
  pub writes : work.writes ≡ input_writes w.count w.prefix ++ played.writes
  pub leaves : (m : Files) → after_writes work.writes m
      ≡ after_writes played.writes (with_inputs w.count w.prefix m)
  pub text : work.text ≡ played.text

-- No configuration file that is made is longer than one that is read may be, whatever words ask
-- for it.
abbrev pub AskedTextsAreShort : Type 0
AskedTextsAreShort = (words : List (List ℕ)) (w : MakeWords) (c : Config) → Asks words (Make w)
    → length (text_of w.prefix c) ≤ LONGEST_CONFIG
