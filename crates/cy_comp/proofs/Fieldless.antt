-- A `Made` takes no memory: it is an empty struct, whatever calls it stands for.
use Rattle.std.proofs.Common.{[], ◌∷◌, refl}
use seplogic.Ra.Ura.{Ura}
use mir.Val.{Val, vstruct, vnil}
use base.Logic.{ent, emp}
use types.Logic.{Logic, sem}
use denote.Param.Send.{IsSend, IsSync, part_keyless}
use denote.Shadow.{makes_shadow}
use Rattle.cy_comp.specs.contracts.made.Made.{the_row as Row}

-- what the machine has of it
abbrev pub blank : Val
blank = vstruct vnil

-- What it owns is only facts, and they hold of any calls, so a proof is free to pick those.
pub made_of_nothing : {M : Type 1} {𝓤 : Ura M} (𝓛 : Logic 𝓤) (made : Row.Denot) → ent 𝓤 (emp 𝓤) (sem 𝓛 (Row.own_val made (blank ∷ [])))
made_of_nothing 𝓛 made = makes_shadow 𝓛 (Row.own_val made (blank ∷ [])) ((λ fields. (tt, tt)), tt) ((tt, (refl, tt)), tt)

-- So it may go to any thread, and any thread may share it.
pub made_send : IsSend Row
made_send = record { owned = λ d vs. ((λ fields. (tt, tt)), tt); leaving = λ k f vs. tt }

pub made_sync : IsSync Row
made_sync = record { shared = λ d b o κ q. part_keyless Row made_send q d b o }
