-- All files that are made are accepted.
use Rattle.std.proofs.Common.{◌≡◌, ◌≤◌, ◌<◌, ◌+◌, ◌++◌, ◌==◌, ℕ, zero, suc, List, [], ◌∷◌, Bool, true, false, if◌then◌else◌, None, Option, Result, length, map, filter, codes, refl, ap, ◌∙◌, zip, arith, length-append}
use Rattle.std.specs.Prelude.{nat_lt}
use Rattle.std.specs.Str.{IsUtf8}
use Rattle.std.proofs.lemmas.Bool.{le-ltb}
use Rattle.std.proofs.lemmas.List.{length-map}
use Rattle.cy_store.specs.Files.{Files}
use Rattle.cy_store.specs.Reads.{Accepts, Refuses, ◌>>=◌, file_by, judged}
use Rattle.cy_section.specs.Chunks.{messages_in}
use Rattle.cy_wiring.specs.Wiring.{plans_of}
use Rattle.cy_dag.specs.declared.error.DagError.{DagError}
use Rattle.cy_msg.specs.declared.filter.Filter.{Filter}
use Rattle.cy_reader.specs.Record.{Contents, record_of, with_section}
use Rattle.cy_reader.specs.declared.known.Known.{Known}
use Rattle.cy_play_list.specs.Play.{Choice, all_places, chosen, is_played, most_played, number_at, places_below}
use Rattle.cy_reader.specs.declared.error.LoadError.{LoadError}
use Rattle.cy_reader.specs.declared.error.LoadError.TheVariants.{TooManyPlayed}
use Rattle.cy_read_back.specs.Records.{message_on, text_contents}
use Rattle.cy_timer.specs.Timers.{timers_of}
use Rattle.wake_core.specs.Planned.{planned}
use Rattle.wake_core.specs.Run.{routes_of}
use Rattle.wake_core.specs.declared.entries.TheConstants.{MOST_PLANNED}
use Rattle.cy_setup.specs.declared.error.Fault.{Fault}
use Rattle.cy_setup.specs.declared.error.Fault.TheVariants as fault
use Rattle.cy_setup.specs.Configuration.{Configured, configuration_in}
use Rattle.cy_setup.specs.Faults.{in_file, unless}
use Rattle.cy_setup.specs.Listing.{all_count, channels_of as channel_names, choice_of, contents_or, counts_of, few_in, limited, planned_in, played_in, played_on, record_in, ticks_on, times_of}
use Rattle.cy_setup.specs.Setup.{judged_in, replay_in}
use Rattle.cy_setup.specs.Stops.{stop_in}
use Rattle.cy_setup.specs.Wiring.{Wired, wired_of, wiring_in}
use Rattle.cy_make.specs.declared.config.Config.TheVariants.{Adder, Band, Last8, Late, Dag}
use Rattle.cy_make.specs.Inputs.{record_name, with_inputs}
use Rattle.cy_make.specs.Messages.{channels_of, untyped}
use Rattle.cy_make.specs.Texts.{longest_prefix, suffix_of}
use Rattle.cy_made.specs.Accepted.{MadeFilesAreAccepted, over_made}
use Rattle.cy_made.proofs.Found.{record_found}
use Rattle.cy_made.proofs.MessagesMade.{IsRead, message_count, record_read}
use Rattle.cy_made.proofs.Reading.{configuration_there, configured, follow}
use Rattle.cy_made.proofs.WiringMade.{channels, configs, names, names_are, planned_few, plans, wired}
use Rattle.cy_made.proofs.DagMade.{made}

-- a number within its limit
within : (file : List ℕ) (most : ℕ) (passed : ℕ → Fault) (count : ℕ) → count ≤ most → limited file most passed count ≡ Accepts count
within file most passed count few =
    ap (λ (b : Bool). if b then Refuses record { file = file; fault = passed count } else Accepts count) (le-ltb most count few)

-- no more are kept than there are
kept_within : (p : ℕ → Bool) (xs : List ℕ) → length (filter p xs) ≤ length xs
kept_within p [] = omega arith
kept_within p (x ∷ xs) = by_first (p x) refl (kept_within p xs)
  where
    by_first : (b : Bool) → p x ≡ b → length (filter p xs) ≤ length xs → length (filter p (x ∷ xs)) ≤ length (x ∷ xs)
    by_first true is more = rw is (omega arith)
    by_first false is more = rw is (omega arith)

-- the places of messages are as many as they
places_length : (n : ℕ) → length (places_below n) ≡ n
places_length zero = refl
places_length (suc n) = omega (arith, length-append (places_below n) (n ∷ []), places_length n)

chosen_few : (whole : Contents) (choice : Choice) → length (chosen whole choice) ≤ length whole.messages
chosen_few whole choice = omega (arith, kept_within (is_played whole choice) (all_places whole), places_length (length whole.messages))

-- the channels by name
names_there : (one : Bool) → map (λ (known : Known). known.channel.name) (map with_section (untyped (codes "/a") ∷ (if one then [] else untyped (codes "/b") ∷ []))) ≡ channels one
names_there true = refl
names_there false = refl

abbrev the_wired : Wired
the_wired = record { names = names; plans = plans }

module _ (n : ℕ) (prefix : List ℕ) (asked : Filter) (files : Files) (some : 0 < n) (few : n ≤ 1048576) (small : length prefix ≤ longest_prefix) (is : IsUtf8 prefix) where
  abbrev all : Files
  all = with_inputs n prefix files

  abbrev dag_name : List ℕ
  dag_name = prefix ++ suffix_of Dag

  abbrev said : Configured
  said = configured n prefix files small is

  -- The record.
  its : IsRead n prefix
  its = record_read n prefix some few

  abbrev contents : Contents
  contents = text_contents (record_name prefix) (channels_of n) its.chunks

  record_there : record_in (record_name prefix) all ≡ Accepts contents
  record_there =
      ap (λ (bytes : Option (List ℕ)). file_by (record_name prefix) (λ b. contents_or (record_name prefix) (record_of (record_name prefix) b)) bytes) (record_found n prefix files)
      ∙ ap (λ (r : Result Contents LoadError). judged (contents_or (record_name prefix) r)) its.read

  count : length contents.messages ≡ n
  count = length-map (messages_in its.chunks) (message_on (channels_of n)) ∙ ap length its.whole ∙ message_count 0 n

  -- The wiring.
  wired_by : (one : Bool) → wiring_in dag_name (channels one) said ≡ Accepts the_wired
  wired_by one =
      ap (λ (r : Option DagError). in_file dag_name fault.Dag (unless r (wired_of (channels one) said))) (wired one (prefix ++ suffix_of Adder) (prefix ++ suffix_of Band) (prefix ++ suffix_of Last8) (prefix ++ suffix_of Late))
      ∙ ap (λ (ns : List (List ℕ)). Accepts record { names = ns; plans = plans_of ns (zip (made prefix) configs) }) (names_are one (prefix ++ suffix_of Adder) (prefix ++ suffix_of Band) (prefix ++ suffix_of Last8) (prefix ++ suffix_of Late))

  wiring_there : wiring_in dag_name (channel_names contents) said ≡ Accepts the_wired
  wiring_there = ap (λ (cs : List (List ℕ)). wiring_in dag_name cs said) (names_there (nat_lt n 3)) ∙ wired_by (nat_lt n 3)

  -- What is played.
  abbrev choice : Choice
  choice = choice_of asked the_wired

  played_few : length (chosen contents choice) ≤ 1048576
  played_few = omega (arith, chosen_few contents choice, count, few)

  no_ticks : (times : List ℕ) (c : ℕ) → ticks_on times (timers_of plans) c ≡ 0
  no_ticks times c = refl

  messages_few : length (chosen contents choice) ≤ 4194304
  messages_few = omega (arith, played_few)

  all_few : all_count contents choice (timers_of plans) ≤ 4194304
  all_few = omega (arith, played_few)

  played_there : played_in (record_name prefix) contents asked the_wired ≡ Accepts (all_count contents choice (timers_of plans))
  played_there =
      follow (few_in (record_name prefix) (length (chosen contents choice))) (length (chosen contents choice)) (λ (messages : ℕ). few_in (record_name prefix) (all_count contents choice (timers_of plans)))
      (within (record_name prefix) most_played (λ n. fault.Record (TooManyPlayed n)) (length (chosen contents choice)) messages_few)
      ∙ within (record_name prefix) most_played (λ n. fault.Record (TooManyPlayed n)) (all_count contents choice (timers_of plans)) all_few

  abbrev on : ℕ → ℕ
  on c = played_on contents choice c + ticks_on (times_of contents choice) (timers_of plans) c

  on_few : (c : ℕ) → on c ≤ 1048576
  on_few c = omega (arith, kept_within (λ (place : ℕ). number_at contents choice place == c) (chosen contents choice), played_few, no_ticks (times_of contents choice) c)

  planned_there : planned_in (record_name prefix) the_wired (counts_of contents asked the_wired) ≡ Accepts (planned (routes_of plans) (counts_of contents asked the_wired))
  planned_there = within (record_name prefix) MOST_PLANNED fault.TooMany (planned (routes_of plans) (counts_of contents asked the_wired)) (planned_few (on 0) (on 1) (on 2) (on 3) (on 4) (on 5) (on_few 0) (on_few 1))

  all_there : replay_in (over_made prefix asked) all ≡ Accepts record { configured = said; contents = contents; wired = the_wired }
  all_there =
      follow (configuration_in dag_name None all) said (λ (c : Configured). record_in (record_name prefix) all >>= λ found. judged_in dag_name (over_made prefix asked) c found) (configuration_there n prefix files small is)
      ∙ follow (record_in (record_name prefix) all) contents (λ (found : Contents). judged_in dag_name (over_made prefix asked) said found) record_there
      ∙ follow (wiring_in dag_name (channel_names contents) said) the_wired (λ (w : Wired). stop_in dag_name None w >>= λ _. played_in (record_name prefix) contents asked w >>=
      λ _. planned_in (record_name prefix) w (counts_of contents asked w) >>= λ _. Accepts record { configured = said; contents = contents; wired = w }) wiring_there
      ∙ follow (played_in (record_name prefix) contents asked the_wired) (all_count contents choice (timers_of plans)) (λ (p : ℕ). planned_in (record_name prefix) the_wired (counts_of contents asked the_wired) >>=
      λ _. Accepts record { configured = said; contents = contents; wired = the_wired }) played_there
      ∙ follow (planned_in (record_name prefix) the_wired (counts_of contents asked the_wired)) (planned (routes_of plans) (counts_of contents asked the_wired))
      (λ (p : ℕ). Accepts record { configured = said; contents = contents; wired = the_wired }) planned_there

pub accepted : MadeFilesAreAccepted
accepted n prefix asked files some few small is = (record { configured = configured n prefix files small is; contents = contents n prefix asked files some few small is; wired = the_wired }, all_there n prefix asked files some few small is)
