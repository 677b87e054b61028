-- Where no count of faults rose, the answer is what the files call for, or Memory.
use Rattle.std.proofs.Common.{◌≡◌, ℕ, List, Option, Some, None, refl, sym, ap, ◌∙◌, subst, inl, inr}
use Rattle.std.specs.Prelude.{◌⊎◌, ⊤, MatchOption}
use Rattle.std.proofs.lemmas.Option.{MatchOption-at_some}
use Rattle.cy_store.specs.Files.{Files}
use Rattle.cy_store.specs.Store.{StoreView, Rose}
use Rattle.cy_commands.specs.declared.status.Status.{Status}
use Rattle.cy_commands.specs.declared.status.Status.TheVariants.{Done, Refused, Usage, StoreFault, SinkFault, Limit, Memory}
use Rattle.cy_store.specs.Reads.{Reads, Accepts, Refuses, Absent}
use Rattle.cy_setup.specs.declared.error.Refusal.{Refusal}
use Rattle.cy_commands.specs.Status.{status_of}
use Rattle.cy_args.specs.Command.{Check, Command, Info, Make, Merge, Play, Recover, Split, Verify}
use Rattle.cy_args.specs.PlayWords.{PlayWords}
use Rattle.cy_commands.specs.Work.{Work}
use Rattle.cy_commands.specs.Commands.{IsAbsent, IsAccepted, IsRefused, IsTaken, Judging, Making, Outcome, Reading, outcome_of}
use Rattle.cy_commands.specs.Commands.VerifyWork.{IsReadToVerify, IsVerified, VerdictsAreOne}
use Rattle.cy_commands.specs.Due.{IsDue, IsDueFor, IsMisused}
use Rattle.cyber_cli.specs.Told.{Sinks, IsTold, IsUntold}
use Rattle.cyber_cli.specs.Ends.{Answers, CallsFor, IsComplete}

-- a status other than SinkFault and Memory is answered where it is due
told_so : (due : Status) (line : List ℕ) (old new : Sinks) (answer : Status) → IsTold due line old new answer → (answer ≡ due) ⊎ ((answer ≡ SinkFault) ⊎ (answer ≡ Memory))
told_so due line old new Done t = inl (sym t.0)
told_so due line old new Refused t = inl (sym t.0)
told_so due line old new Usage t = inl (sym t.0)
told_so due line old new StoreFault t = inl (sym t.0)
told_so due line old new SinkFault t = inr (inl refl)
told_so due line old new Limit t = inl (sym t.0)
told_so due line old new Memory t = inr (inr refl)

-- a fault of a sink has a count that rose
untold_rose : (due : Status) (line : List ℕ) (old new : Sinks) → IsUntold due line old new → Rose old.out.faults new.out.faults ⊎ Rose old.err.faults new.err.faults
untold_rose Done line old new u = inl u.0
untold_rose Refused line old new u = inr u.0
untold_rose Usage line old new u = inr u.0
untold_rose StoreFault line old new u = inr u.0
untold_rose SinkFault line old new u = inr u.0
untold_rose Limit line old new u = inr u.0
untold_rose Memory line old new u = inr u.0

no_sink_fault : (due : Status) (line : List ℕ) (old new : Sinks) (answer : Status) → IsTold due line old new answer → answer ≡ SinkFault
    → (Rose old.out.faults new.out.faults → ⊥) → (Rose old.err.faults new.err.faults → ⊥) → ⊥
no_sink_fault due line old new answer t e out err =
    elim (untold_rose due line old new (subst (IsTold due line old new) e t)) [ inl r ↦ out r | inr r ↦ err r ]

-- what an accepted work says of the files
taken : (o : Outcome) (m : Files) (work : Work) → IsAccepted o (Some m) work → IsTaken o m
taken (Reading names reads makes) m work a = (a.read, a.accepted)
taken (Making own makes) m work a = tt
taken (Judging names comes) m work a = (work, a)

-- what is due is called for, where no faults rose
called : (c : Command) (old new : StoreView) (m : Files) (due : Status) (line : List ℕ) → old.files ≡ Some m → (Rose old.faults new.faults → ⊥)
    → IsDueFor c old new due line → (due ≡ Memory) ⊎ CallsFor (outcome_of c) m due
called c old new m Done line told quiet d = inr (taken (outcome_of c) m d.work (subst (λ (files : Option Files). IsAccepted (outcome_of c) files d.work) told d.accepted))
called c old new m Refused line told quiet d = inr (line, subst (λ (files : Option Files). IsRefused (outcome_of c) files Refused line) told d.refused)
called c old new m Usage line told quiet d = absurd d
called c old new m StoreFault line told quiet (inl read) =
    elim read.rose [
      | inl rose ↦ absurd (quiet rose)
      | inr missed ↦ inr (read.name, subst (λ (files : Option Files). IsAbsent (outcome_of c) files read.name) told missed.1)
    ]
called c old new m StoreFault line told quiet (inr written) =
    elim written.rose [
      | inl rose ↦ absurd (quiet rose)
      | inr missed ↦ absurd (let e : None ≡ Some m = sym missed.1 ∙ told in cc)
    ]
called c old new m SinkFault line told quiet d = absurd d
called c old new m Limit line told quiet d = inr (line, subst (λ (files : Option Files). IsRefused (outcome_of c) files Limit line) told d.refused)
called c old new m Memory line told quiet d = inl refl

-- what is no judging
abbrev IsRead : Outcome → Type 0
IsRead (Reading names reads makes) = ⊤
IsRead (Making own makes) = ⊤
IsRead (Judging names comes) = ⊥

-- what the files come to calls for one status, and where none is read, Done is called for
abbrev one_status : Outcome → Files → Status
one_status (Reading names reads makes) m = status_of (reads m)
one_status (Making own makes) m = Done
one_status (Judging names comes) m = Done

-- what judged files call for is what they come to
record JudgedAs (comes : Option Files → Reads Refusal Work → Type 0) (m : Files) (due : Status) : Type 0 where
  result : Reads Refusal Work
  came : comes (Some m) result
  is : due ≡ status_of result

judged_as : (names : Option Files → List ℕ → Type 0) (comes : Option Files → Reads Refusal Work → Type 0) (m : Files) (due : Status) → CallsFor (Judging names comes) m due → JudgedAs comes m due
judged_as names comes m Done h = record { result = Accepts h.0; came = h.1; is = refl }
judged_as names comes m Refused h = record { result = Refuses h.1.refusal; came = h.1.refused; is = h.1.status }
judged_as names comes m StoreFault h = record { result = Absent h.0; came = h.1; is = refl }
judged_as names comes m Limit h = record { result = Refuses h.1.refusal; came = h.1.refused; is = h.1.status }
judged_as names comes m Usage h = absurd h
judged_as names comes m SinkFault h = absurd h
judged_as names comes m Memory h = absurd h

is_one : (o : Outcome) (m : Files) (due : Status) → IsRead o → CallsFor o m due → due ≡ one_status o m
is_one (Reading names reads makes) m Done read h = ap status_of (sym h.1)
is_one (Reading names reads makes) m Refused read h = h.1.status ∙ ap status_of (sym h.1.refused)
is_one (Reading names reads makes) m StoreFault read h = ap status_of (sym h.1)
is_one (Reading names reads makes) m Limit read h = h.1.status ∙ ap status_of (sym h.1.refused)
is_one (Making own makes) m Done read h = refl
is_one (Making own makes) m Refused read h = absurd (let e : Some m ≡ None = h.1.untold in cc)
is_one (Making own makes) m StoreFault read h = absurd h.1
is_one (Making own makes) m Limit read h = absurd (let e : Some m ≡ None = h.1.untold in cc)
is_one (Judging names comes) m due read h = absurd read
is_one o m Usage read h = absurd h
is_one o m SinkFault read h = absurd h
is_one o m Memory read h = absurd h

by_reading : (o : Outcome) (m : Files) (a b : Status) → IsRead o → CallsFor o m a → CallsFor o m b → a ≡ b
by_reading o m a b read x y = is_one o m a read x ∙ sym (is_one o m b read y)

by_judging : VerdictsAreOne → (w : PlayWords) (m : Files) (a b : Status) → CallsFor (outcome_of (Verify w)) m a → CallsFor (outcome_of (Verify w)) m b → a ≡ b
by_judging one w m a b x y =
    let p = judged_as (IsReadToVerify w) (IsVerified w) m a x in
    let q = judged_as (IsReadToVerify w) (IsVerified w) m b y in
    p.is ∙ one w m p.result q.result p.came q.came ∙ sym q.is

one_call : VerdictsAreOne → (c : Command) (m : Files) (a b : Status) → CallsFor (outcome_of c) m a → CallsFor (outcome_of c) m b → a ≡ b
one_call one (Check w) m a b x y = by_reading (outcome_of (Check w)) m a b tt x y
one_call one (Info w) m a b x y = by_reading (outcome_of (Info w)) m a b tt x y
one_call one (Play w) m a b x y = by_reading (outcome_of (Play w)) m a b tt x y
one_call one (Make w) m a b x y = by_reading (outcome_of (Make w)) m a b tt x y
one_call one (Verify w) m a b x y = by_judging one w m a b x y
one_call one (Recover w) m a b x y = by_reading (outcome_of (Recover w)) m a b tt x y
one_call one (Split w) m a b x y = by_reading (outcome_of (Split w)) m a b tt x y
one_call one (Merge w) m a b x y = by_reading (outcome_of (Merge w)) m a b tt x y

pub complete : VerdictsAreOne → (asked : Option Command) (old_store new_store : StoreView) (old new : Sinks) (answer : Status) → Answers asked old_store new_store old new answer
    → IsComplete asked old_store new_store old new answer
complete one asked old_store new_store old new answer a c m due is told call store out err =
    elim (told_so a.due a.line old new answer a.is_told) [
      | inl same ↦ elim (called c old_store new_store m a.due a.line told store is_due) [
        | inl memory ↦ inr (same ∙ memory)
        | inr calls ↦ inl (same ∙ one_call one c m a.due due calls call)
      ]
      | inr other ↦ elim other [
        | inl fault ↦ absurd (no_sink_fault a.due a.line old new answer a.is_told fault out err)
        | inr memory ↦ inr memory
      ]
    ]
  where
    is_due : IsDueFor c old_store new_store a.due a.line
    is_due = MatchOption-at_some (IsMisused old_store new_store a.due a.line) (λ c. IsDueFor c old_store new_store a.due a.line) c is a.is_due

-- a fault of a sink is never due
pub not_sink : (asked : Option Command) (old new : StoreView) (due : Status) (line : List ℕ) → IsDue asked old new due line → due ≡ SinkFault → ⊥
not_sink asked old new due line d e = by asked (subst (λ (s : Status). IsDue asked old new s line) e d)
  where
    by : (o : Option Command) → MatchOption o (IsMisused old new SinkFault line) (λ c. IsDueFor c old new SinkFault line) → ⊥
    by None m = let no : SinkFault ≡ Usage = m.usage in cc
    by (Some c) d = d
