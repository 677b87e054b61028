-- `clap` takes the words that ask for a command, and what it keeps of them asks for the same one.
use Rattle.std.proofs.Common.{◌≡◌, List, [], ◌∷◌, true, Option, Some, None, is_some, refl, sym, ap, ◌∙◌, true≢false}
use Rattle.std.proofs.Common.{get_or, option_map}
use Rattle.std.specs.Borrow.{Bor}
use Rattle.clap.specs.Walk.{Row, Text, texts}
use Rattle.clap.specs.Words.{subcommand_of, takes}
use Rattle.cy_args.specs.Command.{Asks, Command, Form}
use Rattle.cy_args.specs.private.Kept.{asked_in, options_in}
use Rattle.cy_args.specs.FilterWords.{◌>>=◌}
use Rattle.cy_args.specs.private.Program.{program}
use Rattle.cy_args.specs.private.Scan.{command_of}
use Rattle.cy_args.proofs.Asked.{asks}
use Rattle.cy_args.proofs.ClapProgram.{Reads, form_read}
use Rattle.cy_args.proofs.OptionsRead.{some_same}

-- `clap` takes the words, and what it keeps of them asks for this command
pub record Read (name : Text) (words : List Text) (c : Command) : Type 0 where
  pub rows : List Row
  pub reads : Reads name words rows
  pub asked : asked_in name rows ≡ Some c

pub read : (name : Text) (words : List Text) (c : Command) → Asks (name ∷ words) c → Read name words c
read name words c h =
    let r = form_read name h.0 words h.2.options h.1 h.2.are_options in
    record {
      rows = r.0;
      reads = r.1;
      asked = ap (λ (x : Option Form). x >>= λ f. f.asked (options_in f.known r.0)) h.1 ∙ (ap h.0.asked r.2 ∙ h.2.asks);
    }

-- ---- all the words, of which the first one is the name

-- words that ask for a command are taken, and what is kept of them asks for it
pub record ReadAll (words : List (Bor Text)) : Type 0 where
  pub rows : List Row
  pub taken : takes program (texts words) ≡ true
  pub named : is_some (subcommand_of program (texts words)) ≡ true
  pub found : option_map (λ p. p.1) (subcommand_of program (texts words)) ≡ Some rows
  pub asked : (name : Bor Text) → name ≡ get_or words 0 name → asked_in name.now rows ≡ command_of (texts words)

some_of : (x : Option Command) → is_some x ≡ true → (c : Command) × (x ≡ Some c)
some_of None e = absurd (true≢false (sym e))
some_of (Some c) e = (c, refl)

pub all_read : (words : List (Bor Text)) → is_some (command_of (texts words)) ≡ true → ReadAll words
all_read [] e = absurd (true≢false (sym e))
all_read (word ∷ words) e =
    let found = some_of (command_of (texts (word ∷ words))) e in
    let r = read word.now (texts words) found.0 (asks (texts (word ∷ words)) found.0 found.1) in
    record {
      rows = r.rows;
      taken = r.reads.taken;
      named = ap is_some r.reads.found;
      found = ap (option_map (λ (p : Text × List Row). p.1)) r.reads.found;
      asked = λ name is. ap (λ (n : Bor Text). asked_in n.now r.rows) is ∙ (r.asked ∙ sym found.1);
    }

pub then_asked : (words : List (Bor Text)) (r : ReadAll words) (name : Bor Text) (rows : List Row) (found : Option Command) → name ≡ get_or words 0 name
    → found ≡ asked_in name.now rows → rows ≡ r.rows → found ≡ command_of (texts words)
then_asked words r name rows found first is same = is ∙ (ap (asked_in name.now) same ∙ r.asked name first)

pub same_kept : (words slice : List (Bor Text)) (r : ReadAll words) (rows : List Row) → slice ≡ words → Some rows ≡ option_map (λ p. p.1) (subcommand_of program (texts slice)) → rows ≡ r.rows
same_kept words slice r rows same is =
    some_same rows r.rows (is ∙ (ap (λ (l : List (Bor Text)). option_map (λ (p : Text × List Row). p.1) (subcommand_of program (texts l))) same ∙ r.found))
