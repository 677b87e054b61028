-- What the writes of a command's work leave of the files.
use Rattle.std.proofs.Common.{◌≡◌, ℕ, zero, suc, false, List, [], ◌∷◌, ◌++◌, map, get_or, Option, Some, None, refl, sym, ap, ◌∙◌, subst, inl, inr, arith, codes, flat_map, bytes_eq, true≢false, append-nil, append_assoc}
use Rattle.std.specs.Prelude.{⊤, All, option_map}
use Rattle.std.specs.FinMap.{get}
use Rattle.std.proofs.lemmas.List.{append_cancel_left}
use Rattle.std.proofs.lemmas.Slice.Eq.{bytes_eq-Decides}
use Rattle.cy_store.specs.Files.{Files}
use Rattle.cy_store.specs.Reads.{Reads, Accepts}
use Rattle.cy_store.specs.Store.{StoreView}
use Rattle.cy_store.specs.Write.{Write, Create, Put, name_of, after_writes}
use Rattle.cy_msg.specs.declared.play_list.PlayList.{PlayList}
use Rattle.cy_section.specs.declared.types.BodyMessage.{BodyMessage}
use Rattle.cy_section.specs.declared.types.Channel.{Channel}
use Rattle.cy_section.specs.RecordText.{record_bytes}
use Rattle.cy_writer.specs.Laws.{LeavesRecord}
use Rattle.cy_writer.specs.RecordWrites.{file_writes, record_puts}
use Rattle.cy_writer.specs.Unfinished.{AreOfOthers, FailedLeaves, OthersStay, OthersStayStarved, StarvedLeaves, StandsCut, StandsTorn}
use Rattle.cy_writer.specs.Writes.{placed, puts_into, StopsAt, StopsBefore}
use Rattle.cy_writer.proofs.Puts.{after_writes-append, get-inserted}
use Rattle.cy_make.specs.declared.config.Config.{Config}
use Rattle.cy_make.specs.declared.config.Config.TheVariants.{Adder, Band, Last8, Late, Dag}
use Rattle.cy_make.specs.Inputs.{all_configs, config_writes, input_writes, made_chunks, made_record_writes, record_name}
use Rattle.cy_make.specs.Messages.{channels_of}
use Rattle.cy_make.specs.Texts.{suffix_of, text_of}
use Rattle.cy_recording.specs.Recording.{channels_of_tape, chunks_of_tape}
use Rattle.cy_reader.specs.Record.{Message, Met}
use Rattle.cy_tools.specs.Kept.{channels_with, chunks_with, passing}
use Rattle.cy_tools.specs.Tools.{met_in}
use Rattle.cy_setup.specs.declared.error.Refusal.{Refusal}
use Rattle.cy_setup.specs.Setup.{Replayed}
use Rattle.cy_args.specs.Command.{Asks, Check, Command, Info, Make, Merge, Play, PlayFilesDiffer, Recover, Split, Verify}
use Rattle.cy_args.specs.MakeWords.{MakeWords}
use Rattle.cy_args.specs.PlayWords.{PlayWords}
use Rattle.cy_commands.specs.declared.status.Status.{Status}
use Rattle.cy_commands.specs.declared.status.Status.TheVariants.{Done, Refused, Usage, StoreFault, SinkFault, Limit, Memory}
use Rattle.cy_commands.specs.Commands.{IsAccepted, outcome_of}
use Rattle.cy_commands.specs.Commands.MakeWork.{IsMakeWork, play_made}
use Rattle.cy_commands.specs.Commands.MergeWork.{met_sorted}
use Rattle.cy_commands.specs.Commands.PlayWork.{IsPlayWork, source_in}
use Rattle.cy_commands.specs.Commands.RecoverWork.{WritesKept}
use Rattle.cy_commands.specs.Commands.VerifyWork.{IsVerified, Judged, absent, bad, differs, judged, lawful, no_record, no_trace, refused, too_large, unlawful}
use Rattle.cy_commands.specs.Due.{IsDone, IsDueFor, FailsToWrite, StopsForMemory}
use Rattle.cy_commands.specs.Stands.{HasRecord, LeavesItsFiles, StandsAfter, WroteAll, WroteSome, WroteUpTo, records_of, texts_of}
use Rattle.cy_commands.specs.Work.{Work}

-- ---- writes of other files

none_of : (q : List ℕ) → AreOfOthers q []
none_of q = λ k d h. absurd (omega (arith, h))

one_more : (q : List ℕ) (w : Write) (ws : List Write) → (name_of w ≡ q → ⊥) → AreOfOthers q ws → AreOfOthers q (w ∷ ws)
one_more q w ws first rest zero d h = first
one_more q w ws first rest (suc k) d h = rest k d (omega (arith, h))

all_more : (q : List ℕ) (xs ys : List Write) → AreOfOthers q xs → AreOfOthers q ys → AreOfOthers q (xs ++ ys)
all_more q [] ys first rest = rest
all_more q (x ∷ xs) ys first rest =
    one_more q x (xs ++ ys) (first 0 x (omega arith)) (all_more q xs ys (λ k d h. first (suc k) d (omega (arith, h))) rest)

of_puts : (q name : List ℕ) (puts : List (ℕ × List ℕ)) → (name ≡ q → ⊥) → AreOfOthers q (puts_into name puts)
of_puts q name [] apart = none_of q
of_puts q name (put ∷ puts) apart = one_more q (Put name put.0 put.1) (puts_into name puts) apart (of_puts q name puts apart)

of_file : (q name : List ℕ) (puts : List (ℕ × List ℕ)) → (name ≡ q → ⊥) → AreOfOthers q (file_writes name puts)
of_file q name puts apart = one_more q (Create name) (puts_into name puts) apart (of_puts q name puts apart)

-- ---- names of all that a command makes

in_first : (q : List ℕ) (xs ys : List (List ℕ)) → All (λ (own : List ℕ). own ≡ q → ⊥) (xs ++ ys) → All (λ (own : List ℕ). own ≡ q → ⊥) xs
in_first q [] ys all k d h = absurd (omega (arith, h))
in_first q (x ∷ xs) ys all zero d h = all 0 d (omega arith)
in_first q (x ∷ xs) ys all (suc k) d h = in_first q xs ys (λ j e g. all (suc j) e (omega (arith, g))) k d (omega (arith, h))

in_second : (q : List ℕ) (xs ys : List (List ℕ)) → All (λ (own : List ℕ). own ≡ q → ⊥) (xs ++ ys) → All (λ (own : List ℕ). own ≡ q → ⊥) ys
in_second q [] ys all = all
in_second q (x ∷ xs) ys all = in_second q xs ys (λ j e g. all (suc j) e (omega (arith, g)))

unlike : (a b : List ℕ) → bytes_eq a b ≡ false → a ≡ b → ⊥
unlike a b apart same = true≢false (sym ((bytes_eq-Decides a b).1 same) ∙ apart)

pub behind_prefix : (p a b : List ℕ) → bytes_eq a b ≡ false → p ++ a ≡ p ++ b → ⊥
behind_prefix p a b apart same = unlike a b apart (append_cancel_left p a b same)

-- ---- the writes of each command's work

-- the two files of a play, with what is written behind its record
of_play : (q output trace : List ℕ) (puts pieces : List (ℕ × List ℕ)) → (output ≡ q → ⊥) → (trace ≡ q → ⊥)
    → AreOfOthers q (file_writes output puts ++ file_writes trace pieces)
of_play q output trace puts pieces out_apart trace_apart =
    all_more q (file_writes output puts) (file_writes trace pieces) (of_file q output puts out_apart) (of_file q trace pieces trace_apart)

played_others : (w : PlayWords) (read : Replayed) (work : Work) (q : List ℕ) → IsPlayWork w read work → (w.output ≡ q → ⊥) → (w.trace ≡ q → ⊥) → AreOfOthers q work.writes
played_others w read work q made out_apart trace_apart =
    let s = source_in read made.list in
    let tape = made.world.tape in
    subst (AreOfOthers q) (sym made.writes)
    (of_play q w.output w.trace (record_puts (channels_of_tape s tape) (chunks_of_tape w.output s tape)) (placed 0 made.pieces) out_apart trace_apart)

played_record : (w : PlayWords) (read : Replayed) (work : Work) → IsPlayWork w read work → (w.output ≡ w.trace → ⊥) → HasRecord work w.output (λ channels chunks. ⊤)
played_record w read work made apart =
    let s = source_in read made.list in
    let tape = made.world.tape in
    record {
      channels = channels_of_tape s tape;
      chunks = chunks_of_tape w.output s tape;
      first = [];
      last = file_writes w.trace (placed 0 made.pieces);
      writes = made.writes;
      before = none_of w.output;
      behind = of_file w.output w.trace (placed 0 made.pieces) (λ same. apart (sym same));
      stands = tt;
    }

-- the configuration files of `make`
of_configs : (q prefix : List ℕ) → All (λ (own : List ℕ). own ≡ q → ⊥) (map (λ c. prefix ++ suffix_of c) all_configs) → AreOfOthers q (flat_map (config_writes prefix) all_configs)
of_configs q prefix all = by all_configs all
  where
    by : (cs : List Config) → All (λ (own : List ℕ). own ≡ q → ⊥) (map (λ (c : Config). prefix ++ suffix_of c) cs) → AreOfOthers q (flat_map (config_writes prefix) cs)
    by [] all = none_of q
    by (c ∷ cs) all =
        all_more q (config_writes prefix c) (flat_map (config_writes prefix) cs) (of_file q (prefix ++ suffix_of c) ((0, text_of prefix c) ∷ []) (all 0 (prefix ++ suffix_of c) (omega arith)))
        (by cs (λ k d h. all (suc k) d (omega (arith, h))))

configs_apart : (prefix end : List ℕ) → ((c : Config) → bytes_eq (suffix_of c) end ≡ false) → All (λ (own : List ℕ). own ≡ prefix ++ end → ⊥) (map (λ c. prefix ++ suffix_of c) all_configs)
configs_apart prefix end apart = by all_configs
  where
    by : (cs : List Config) → All (λ (own : List ℕ). own ≡ prefix ++ end → ⊥) (map (λ (c : Config). prefix ++ suffix_of c) cs)
    by [] k d h = absurd (omega (arith, h))
    by (c ∷ cs) zero d h = behind_prefix prefix (suffix_of c) end (apart c)
    by (c ∷ cs) (suc k) d h = by cs k d (omega (arith, h))

no_record_name : (c : Config) → bytes_eq (suffix_of c) (codes ".record") ≡ false
no_record_name Adder = refl
no_record_name Band = refl
no_record_name Last8 = refl
no_record_name Late = refl
no_record_name Dag = refl

no_output_name : (c : Config) → bytes_eq (suffix_of c) (codes ".out") ≡ false
no_output_name Adder = refl
no_output_name Band = refl
no_output_name Last8 = refl
no_output_name Late = refl
no_output_name Dag = refl

inputs_others : (n : ℕ) (prefix q : List ℕ) → All (λ (own : List ℕ). own ≡ q → ⊥) (map (λ c. prefix ++ suffix_of c) all_configs) → (record_name prefix ≡ q → ⊥)
    → AreOfOthers q (input_writes n prefix)
inputs_others n prefix q configs apart =
    all_more q (flat_map (config_writes prefix) all_configs) (made_record_writes n prefix) (of_configs q prefix configs)
    (of_file q (record_name prefix) (record_puts (channels_of n) (made_chunks n prefix)) apart)

made_others : (w : MakeWords) (work : Work) (q : List ℕ) → IsMakeWork w work → All (λ (own : List ℕ). own ≡ q → ⊥) (records_of (Make w) ++ texts_of (Make w)) → AreOfOthers q work.writes
made_others w work q made all =
    let texts = in_second q (records_of (Make w)) (texts_of (Make w)) all in
    let configs = map (λ (c : Config). w.prefix ++ suffix_of c) all_configs in
    let trace = in_second q configs ((play_made w).trace ∷ []) texts in
    subst (AreOfOthers q) (sym made.writes)
    (all_more q (input_writes w.count w.prefix) made.played.writes
    (inputs_others w.count w.prefix q (in_first q configs ((play_made w).trace ∷ []) texts) (all 0 (record_name w.prefix) (omega arith)))
    (played_others (play_made w) made.by_play.read made.played q made.by_play.made (all 1 (play_made w).output (omega arith)) (trace 0 (play_made w).trace (omega arith))))

made_record : (w : MakeWords) (work : Work) → IsMakeWork w work → HasRecord work (record_name w.prefix) (λ channels chunks. ⊤)
made_record w work made =
    let name = record_name w.prefix in
    let configs = flat_map (config_writes w.prefix) all_configs in
    record {
      channels = channels_of w.count;
      chunks = made_chunks w.count w.prefix;
      first = configs;
      last = made.played.writes;
      writes = made.writes ∙ append_assoc configs (made_record_writes w.count w.prefix) made.played.writes;
      before = of_configs name w.prefix (configs_apart w.prefix (codes ".record") no_record_name);
      behind = played_others (play_made w) made.by_play.read made.played name made.by_play.made (behind_prefix w.prefix (codes ".out") (codes ".record") refl)
          (behind_prefix w.prefix (codes ".trace") (codes ".record") refl);
      stands = tt;
    }

made_output : (w : MakeWords) (work : Work) → IsMakeWork w work → HasRecord work (play_made w).output (λ channels chunks. ⊤)
made_output w work made =
    let name = (play_made w).output in
    let inputs = input_writes w.count w.prefix in
    let played = played_record (play_made w) made.by_play.read made.played made.by_play.made (behind_prefix w.prefix (codes ".out") (codes ".trace") refl) in
    let rest = file_writes name (record_puts played.channels played.chunks) ++ played.last in
    record {
      channels = played.channels;
      chunks = played.chunks;
      first = inputs ++ played.first;
      last = played.last;
      writes = made.writes ∙ ap (λ (ws : List Write). inputs ++ ws) played.writes ∙ sym (append_assoc inputs played.first rest);
      before = all_more name inputs played.first (inputs_others w.count w.prefix name (configs_apart w.prefix (codes ".out") no_output_name) (behind_prefix w.prefix (codes ".record") (codes ".out") refl)) played.before;
      behind = played.behind;
      stands = tt;
    }

-- `verify` writes nothing
judged_silent : (w : PlayWords) (read : Replayed) (list : PlayList) (files : Option Files) (result : Reads Refusal Work) (work : Work) → Judged w read list files result
    → result ≡ Accepts work → work.writes ≡ []
judged_silent w read list files result work (no_trace name is) e = cc
judged_silent w read list files result work (too_large refusal is) e = cc
judged_silent w read list files result work (bad text before is first) e = cc
judged_silent w read list files result work (unlawful text is good none) e = cc
judged_silent w read list files result work (no_record world told lacks) e = cc
judged_silent w read list files result work (differs world place told holds) e = cc
judged_silent w read list files result work (lawful world told holds) e = cc

verified_silent : (w : PlayWords) (files : Option Files) (result : Reads Refusal Work) (work : Work) → IsVerified w files result → result ≡ Accepts work → work.writes ≡ []
verified_silent w files result work (refused refusal is) e = cc
verified_silent w files result work (absent name is) e = cc
verified_silent w files result work (judged read list made is set out) e = judged_silent w read list files made work out e

-- the one file of `recover`, of `split` and of `merge`
kept_others : (name q : List ℕ) (met : Met) (kept : List Message) (work : Work) → WritesKept name met kept work → (name ≡ q → ⊥) → AreOfOthers q work.writes
kept_others name q met kept work made apart =
    subst (AreOfOthers q) (sym made.writes) (of_file q name (record_puts (channels_with met kept) (chunks_with name met kept)) apart)

kept_record_of : (name : List ℕ) (met : Met) (kept : List Message) (work : Work) → WritesKept name met kept work → HasRecord work name (λ channels chunks. ⊤)
kept_record_of name met kept work made =
    let file = file_writes name (record_puts (channels_with met kept) (chunks_with name met kept)) in
    record {
      channels = channels_with met kept;
      chunks = chunks_with name met kept;
      first = [];
      last = [];
      writes = made.writes ∙ sym (append-nil file);
      before = none_of name;
      behind = none_of name;
      stands = tt;
    }

-- all commands

abbrev pub NamesDiffer : Command → Type 0
NamesDiffer (Play w) = w.output ≡ w.trace → ⊥
NamesDiffer c = ⊤

work_others : (c : Command) (files : Option Files) (work : Work) (q : List ℕ) → IsAccepted (outcome_of c) files work → All (λ (own : List ℕ). own ≡ q → ⊥) (records_of c ++ texts_of c)
    → AreOfOthers q work.writes
work_others (Check w) files work q a all = subst (AreOfOthers q) (sym a.made.silent) (none_of q)
work_others (Info w) files work q a all = subst (AreOfOthers q) (sym a.made.silent) (none_of q)
work_others (Play w) files work q a all = played_others w a.read work q a.made (all 0 w.output (omega arith)) (all 1 w.trace (omega arith))
work_others (Make w) files work q a all = made_others w work q a all
work_others (Recover w) files work q a all = kept_others w.output q a.read.met a.read.met.messages work a.made.written (all 0 w.output (omega arith))
work_others (Split w) files work q a all = kept_others w.output q (met_in a.read) (passing w.filter (met_in a.read)) work a.made.written (all 0 w.output (omega arith))
work_others (Merge w) files work q a all = kept_others w.output q (met_sorted a.read a.made.sorted) a.made.sorted work a.made.written (all 0 w.output (omega arith))
work_others (Verify w) files work q a all = subst (AreOfOthers q) (sym (verified_silent w files (Accepts work) work a refl)) (none_of q)

no_names : (P : List ℕ → Type 0) → All P []
no_names P = λ k d h. absurd (omega (arith, h))

one_name : (P : List ℕ → Type 0) (name : List ℕ) → P name → All P (name ∷ [])
one_name P name h zero d g = h
one_name P name h (suc k) d g = absurd (omega (arith, g))

two_names : (P : List ℕ → Type 0) (a b : List ℕ) → P a → P b → All P (a ∷ b ∷ [])
two_names P a b first second zero d g = first
two_names P a b first second (suc k) d g = one_name P b second k d (omega (arith, g))

work_records : (c : Command) (files : Option Files) (work : Work) → NamesDiffer c → IsAccepted (outcome_of c) files work
    → All (λ name. HasRecord work name (λ channels chunks. ⊤)) (records_of c)
work_records (Check w) files work apart a = no_names (λ name. HasRecord work name (λ channels chunks. ⊤))
work_records (Info w) files work apart a = no_names (λ name. HasRecord work name (λ channels chunks. ⊤))
work_records (Play w) files work apart a = one_name (λ name. HasRecord work name (λ channels chunks. ⊤)) w.output (played_record w a.read work a.made apart)
work_records (Make w) files work apart a = two_names (λ name. HasRecord work name (λ channels chunks. ⊤)) (record_name w.prefix) (play_made w).output (made_record w work a) (made_output w work a)
work_records (Recover w) files work apart a = one_name (λ name. HasRecord work name (λ channels chunks. ⊤)) w.output (kept_record_of w.output a.read.met a.read.met.messages work a.made.written)
work_records (Split w) files work apart a =
    one_name (λ name. HasRecord work name (λ channels chunks. ⊤)) w.output (kept_record_of w.output (met_in a.read) (passing w.filter (met_in a.read)) work a.made.written)
work_records (Merge w) files work apart a =
    one_name (λ name. HasRecord work name (λ channels chunks. ⊤)) w.output (kept_record_of w.output (met_sorted a.read a.made.sorted) a.made.sorted work a.made.written)
work_records (Verify w) files work apart a = no_names (λ name. HasRecord work name (λ channels chunks. ⊤))

-- ---- what stands of a record

stands_so : (work : Work) (name : List ℕ) (P : List Channel → List (List BodyMessage) → Type 0) (r : HasRecord work name (λ channels chunks. ⊤)) → P r.channels r.chunks → HasRecord work name P
stands_so work name P r h = record { channels = r.channels; chunks = r.chunks; first = r.first; last = r.last; writes = r.writes; before = r.before; behind = r.behind; stands = h }

stand_so : (work : Work) (names : List (List ℕ)) (P : (name : List ℕ) → List Channel → List (List BodyMessage) → Type 0) → All (λ name. HasRecord work name (λ channels chunks. ⊤)) names
    → ((name : List ℕ) (r : HasRecord work name (λ channels chunks. ⊤)) → P name r.channels r.chunks) → All (λ name. HasRecord work name (P name)) names
stand_so work names P all each k d h = stands_so work (get_or names k d) (P (get_or names k d)) (all k d h) (each (get_or names k d) (all k d h))

whole_stands : LeavesRecord → OthersStayStarved → (work : Work) (name : List ℕ) (m : Files) (r : HasRecord work name (λ channels chunks. ⊤))
    → get (after_writes work.writes m) name ≡ Some (record_bytes r.channels r.chunks)
whole_stands leaves stay work name m r =
    let file = file_writes name (record_puts r.channels r.chunks) in
    let begun = after_writes r.first m in
    let whole = after_writes file begun in
    ap (λ (ws : List Write). get (after_writes ws m) name) r.writes
    ∙ ap (λ (f : Files). get f name) (after_writes-append r.first (file ++ r.last) m ∙ after_writes-append file r.last begun)
    ∙ stay name r.last whole (after_writes r.last whole) r.behind (record { before = r.last; later = []; split = append-nil r.last; left = refl })
    ∙ ap (λ (f : Files). get f name) (leaves name r.channels r.chunks begun)
    ∙ get-inserted begun name (record_bytes r.channels r.chunks)

-- ---- what stands of all files

wrote_all : LeavesRecord → OthersStayStarved → (c : Command) (m n : Files) (work : Work) → NamesDiffer c → IsAccepted (outcome_of c) (Some m) work → n ≡ after_writes work.writes m → WroteAll c m n
wrote_all leaves stay c m n work apart a is = record {
  work = work;
  accepted = a;
  others = λ q all. stay q work.writes m n (work_others c (Some m) work q a all) (record { before = work.writes; later = []; split = append-nil work.writes; left = ap Some is });
  records = stand_so work (records_of c) (λ name channels chunks. get n name ≡ Some (record_bytes channels chunks)) (work_records c (Some m) work apart a)
      (λ name r. ap (λ (f : Files). get f name) is ∙ whole_stands leaves stay work name m r);
}

wrote_up_to : FailedLeaves → OthersStay → (c : Command) (m n : Files) (work : Work) (failed : Write) → NamesDiffer c → IsAccepted (outcome_of c) (Some m) work
    → StopsAt work.writes failed (Some m) (Some n) → WroteUpTo failed c m n
wrote_up_to leaves stay c m n work failed apart a stops = record {
  work = work;
  accepted = a;
  others = λ q all. stay q work.writes failed m n (work_others c (Some m) work q a all) stops;
  records = stand_so work (records_of c) (λ name channels chunks. StandsTorn name channels chunks failed (get m name) (get n name)) (work_records c (Some m) work apart a)
      (λ name r. leaves name r.channels r.chunks r.first r.last failed m n r.before r.behind (subst (λ (ws : List Write). StopsAt ws failed (Some m) (Some n)) r.writes stops));
}

wrote_some : StarvedLeaves → OthersStayStarved → (c : Command) (m n : Files) (work : Work) → NamesDiffer c → IsAccepted (outcome_of c) (Some m) work
    → StopsBefore work.writes (Some m) (Some n) → WroteSome c m n
wrote_some leaves stay c m n work apart a stops = record {
  work = work;
  accepted = a;
  others = λ q all. stay q work.writes m n (work_others c (Some m) work q a all) stops;
  records = stand_so work (records_of c) (λ name channels chunks. StandsCut channels chunks (get m name) (get n name)) (work_records c (Some m) work apart a)
      (λ name r. leaves name r.channels r.chunks r.first r.last m n r.before r.behind (subst (λ (ws : List Write). StopsBefore ws (Some m) (Some n)) r.writes stops));
}

same_some : {A : Type 0} (a b : A) → Some a ≡ Some b → a ≡ b
same_some a b e = cc

-- all that is known of writes that stop
pub record Leavings : Type 0 where
  pub whole : LeavesRecord
  pub failed : FailedLeaves
  pub starved : StarvedLeaves
  pub others : OthersStay
  pub others_starved : OthersStayStarved

record Told (c : Command) (old new : StoreView) (m n : Files) : Type 0 where
  old_files : old.files ≡ Some m
  new_files : new.files ≡ Some n

same_files : (c : Command) (old new : StoreView) (m n : Files) → Told c old new m n → new.files ≡ old.files → n ≡ m
same_files c old new m n told same = same_some n m (sym told.new_files ∙ same ∙ told.old_files)

accepted_in : (c : Command) (old new : StoreView) (m n : Files) (work : Work) → Told c old new m n → IsAccepted (outcome_of c) old.files work → IsAccepted (outcome_of c) (Some m) work
accepted_in c old new m n work told a = subst (λ (files : Option Files). IsAccepted (outcome_of c) files work) told.old_files a

after_done : Leavings → (c : Command) (old new : StoreView) (line : List ℕ) (m n : Files) → NamesDiffer c → Told c old new m n → IsDone c old new line → WroteAll c m n
after_done l c old new line m n apart told d =
    wrote_all l.whole l.others_starved c m n d.work apart (accepted_in c old new m n d.work told d.accepted)
    (same_some n (after_writes d.work.writes m) (sym told.new_files ∙ d.written ∙ ap (option_map (after_writes d.work.writes)) told.old_files))

after_failure : Leavings → (c : Command) (old new : StoreView) (line : List ℕ) (m n : Files) → NamesDiffer c → Told c old new m n → FailsToWrite c old new line
    → (failed : Write) × WroteUpTo failed c m n
after_failure l c old new line m n apart told d =
    let here = subst (λ (files : Option Files). StopsAt d.work.writes d.failed files new.files) told.old_files d.stops in (
      d.failed,
      wrote_up_to l.failed l.others c m n d.work d.failed apart (accepted_in c old new m n d.work told d.accepted)
          (subst (λ (files : Option Files). StopsAt d.work.writes d.failed (Some m) files) told.new_files here),
    )

after_want : Leavings → (c : Command) (old new : StoreView) (m n : Files) → NamesDiffer c → Told c old new m n → StopsForMemory c old new → WroteSome c m n
after_want l c old new m n apart told d =
    let here = subst (λ (files : Option Files). StopsBefore d.work.writes files new.files) told.old_files d.stops in
    wrote_some l.starved l.others_starved c m n d.work apart (accepted_in c old new m n d.work told d.accepted)
    (subst (λ (files : Option Files). StopsBefore d.work.writes (Some m) files) told.new_files here)

after : Leavings → (c : Command) (old new : StoreView) (due : Status) (line : List ℕ) (m n : Files) → NamesDiffer c → Told c old new m n → IsDueFor c old new due line → StandsAfter due c m n
after l c old new Done line m n apart told d = after_done l c old new line m n apart told d
after l c old new Refused line m n apart told d = same_files c old new m n told (ap (λ (v : StoreView). v.files) d.same)
after l c old new Usage line m n apart told d = absurd d
after l c old new StoreFault line m n apart told (inl read) = inl (same_files c old new m n told read.same)
after l c old new StoreFault line m n apart told (inr written) = inr (after_failure l c old new line m n apart told written)
after l c old new SinkFault line m n apart told d = absurd d
after l c old new Limit line m n apart told d = same_files c old new m n told (ap (λ (v : StoreView). v.files) d.same)
after l c old new Memory line m n apart told (inl same, is) = inl (same_files c old new m n told same)
after l c old new Memory line m n apart told (inr some, is) = inr (after_want l c old new m n apart told some)

differ : PlayFilesDiffer → (words : List (List ℕ)) (c : Command) → Asks words c → NamesDiffer c
differ apart words (Check w) h = tt
differ apart words (Info w) h = tt
differ apart words (Play w) h = apart words w h
differ apart words (Make w) h = tt
differ apart words (Verify w) h = tt
differ apart words (Recover w) h = tt
differ apart words (Split w) h = tt
differ apart words (Merge w) h = tt

pub leaves_its_files : PlayFilesDiffer → Leavings → LeavesItsFiles
leaves_its_files apart l words None old new due line asks d = record { misused = λ e. d.same; refused = λ e. d.same; limited = λ e. d.same; files = tt }
leaves_its_files apart l words (Some c) old new due line asks d = record {
  misused = λ e. absurd (subst (λ (s : Status). IsDueFor c old new s line) e d);
  refused = λ e. (subst (λ (s : Status). IsDueFor c old new s line) e d).same;
  limited = λ e. (subst (λ (s : Status). IsDueFor c old new s line) e d).same;
  files = λ m n is_old is_new. after l c old new due line m n (differ apart words c asks) (record { old_files = is_old; new_files = is_new }) d;
}
