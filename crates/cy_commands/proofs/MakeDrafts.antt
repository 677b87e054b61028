-- The files of `make` are made in memory, and then read: nothing of that fails, and nothing is
-- refused.
use Rattle.std.proofs.Common.{ℕ, ◌≡◌, ◌⊎◌, List, Option, Some, None, IfSome, refl, sym, ap, subst, ◌∙◌, inl, inr, arith}
use Rattle.std.specs.Option.{option_map}
use Rattle.std.specs.FinMap.{empty}
use Rattle.std.specs.Str.{IsUtf8}
use Rattle.std.proofs.lemmas.Option.{none-some}
use Rattle.cy_store.specs.Files.{Files}
use Rattle.cy_store.specs.Reads.{Reads, Accepts, Refuses, Absent}
use Rattle.cy_store.specs.Store.{StoreView, SameCounts, Rose, WriteRose}
use Rattle.cy_store.specs.Write.{after_writes}
use Rattle.cy_setup.specs.Comes.{FailsAt}
use Rattle.cy_setup.specs.Setup.{Replayed}
use Rattle.cy_setup.specs.declared.error.Refusal.{Refusal}
use Rattle.cy_make.specs.Inputs.{input_writes}
use Rattle.cy_make.proofs.Leaving.{leaves}
use Rattle.cy_made.specs.Accepted.{MadeFilesAreAccepted}
use Rattle.cy_args.specs.FilterWords.{all_messages}
use Rattle.cy_args.specs.MakeWords.{CanBeMade, MakeWords}
use Rattle.cy_args.specs.PlayWords.{PlayWords}
use Rattle.cy_commands.specs.private.MakeEnds.{told}
use Rattle.cy_commands.specs.Commands.MakeWork.{made_files, play_made}
use Rattle.cy_commands.specs.Commands.PlayWork.{replayed_in}

pub drafted : (w : MakeWords) (old new : StoreView) → old ≡ told empty → new.files ≡ option_map (after_writes (input_writes w.count w.prefix)) old.files → SameCounts old new → new ≡ told (made_files w)
drafted w old new first files counts =
    let f : new.files ≡ Some (made_files w) =
    files ∙ ap (λ (v : StoreView). option_map (after_writes (input_writes w.count w.prefix)) v.files) first ∙ ap (λ (m : Files). Some m) (leaves w.count w.prefix empty) in
    let a : new.faults ≡ 0 = counts.faults ∙ ap (λ (v : StoreView). v.faults) first in
    let b : new.misses ≡ 0 = counts.misses ∙ ap (λ (v : StoreView). v.misses) first in
    (λ i. record { files = f i; faults = a i; misses = b i })

-- no write fails of a store that has no faults
pub unfailing : (files : Files) (old new : StoreView) → old ≡ told files → new.faults ≡ 0 → WriteRose old new → ⊥
unfailing files old new first none (inl rose) = omega (arith, ap (λ (v : StoreView). v.faults) first, none, rose)
unfailing files old new first none (inr (rose, untold)) = none-some files (sym untold ∙ ap (λ (v : StoreView). v.files) first)

-- what is made is accepted
abbrev Accepted : MakeWords → PlayWords → Type 0
Accepted w p = (all : Replayed) × (replayed_in p (made_files w) ≡ Accepts all)

taken : (w : MakeWords) (p : PlayWords) → p ≡ play_made w → CanBeMade w → IsUtf8 w.prefix → MadeFilesAreAccepted → Accepted w p
taken w p same can is are = subst (λ (q : PlayWords). Accepted w q) (sym same) (are w.count w.prefix all_messages empty can.some can.few can.short is)

-- so nothing of it is refused
pub unrefused : (w : MakeWords) (p : PlayWords) (old : StoreView) (refusal : Refusal) → p ≡ play_made w → CanBeMade w → IsUtf8 w.prefix → MadeFilesAreAccepted
    → old ≡ told (made_files w) → IfSome old.files (λ m. replayed_in p m ≡ Refuses refusal) → ⊥
unrefused w p old refusal same can is are first refused =
    let found = taken w p same can is are in
    let so : replayed_in p (made_files w) ≡ Refuses refusal = subst (λ (v : StoreView). IfSome v.files (λ m. replayed_in p m ≡ Refuses refusal)) first refused in
    let no : Accepts found.0 ≡ Refuses refusal = sym found.1 ∙ so in
    cc

-- and nothing of it is missed
pub unmissed : (w : MakeWords) (p : PlayWords) (old new : StoreView) (file : List ℕ) → p ≡ play_made w → CanBeMade w → IsUtf8 w.prefix → MadeFilesAreAccepted
    → old ≡ told (made_files w) → new.faults ≡ 0 → FailsAt (replayed_in p) old new file → ⊥
unmissed w p old new file same can is are first none fails = by fails.rose
  where
    by : Rose old.faults new.faults ⊎ (Rose old.misses new.misses × IfSome old.files (λ m. replayed_in p m ≡ Absent file)) → ⊥
    by (inl rose) = omega (arith, ap (λ (v : StoreView). v.faults) first, none, rose)
    by (inr (rose, missed)) =
        let found = taken w p same can is are in
        let so : replayed_in p (made_files w) ≡ Absent file = subst (λ (v : StoreView). IfSome v.files (λ m. replayed_in p m ≡ Absent file)) first missed in
        let no : Accepts found.0 ≡ Absent file = sym found.1 ∙ so in
        cc
