-- A `Shown` takes no memory: it is an empty struct, whatever files it stands for.
use Rattle.std.proofs.Common.{[], ◌∷◌, refl}
use seplogic.Ra.Ura.{Ura}
use mir.Val.{Val, vstruct, vnil}
use base.Logic.{ent, emp}
use types.Logic.{Logic, sem}
use denote.Shadow.{makes_shadow}
use Rattle.cy_recording.specs.contracts.shown.Shown.{the_row as Row}

-- what the machine has of it
abbrev pub blank : Val
blank = vstruct vnil

-- What it owns is only facts, and they hold of any files, so a proof is free to pick those.
pub shown_of_nothing : {M : Type 1} {𝓤 : Ura M} (𝓛 : Logic 𝓤) (shown : Row.Denot) → ent 𝓤 (emp 𝓤) (sem 𝓛 (Row.own_val shown (blank ∷ [])))
shown_of_nothing 𝓛 shown = makes_shadow 𝓛 (Row.own_val shown (blank ∷ [])) ((λ fields. (tt, tt)), tt) ((tt, (refl, tt)), tt)
