-- What is salvaged is on channels of different names.
use Rattle.std.proofs.Common.{◌≡◌, ℕ, length, subst, None, Ok, slice_get}
use Rattle.std.specs.Prelude.{map}
use Rattle.cy_reader.specs.Record.{Met, add_sections, nothing}
use Rattle.cy_cut.specs.declared.cutting.CutFile.{CutFile}
use Rattle.cy_cut.specs.Cutting.{seen_part, fault_in}
use Rattle.cy_salvage.specs.private.Salvaging.{place_before, cut_salvage}
use Rattle.cy_salvage.specs.Salvage.{Salvage, until_fault, dropped_at}
use Rattle.cy_reader.specs.Said.{StandOnChannels}
use Rattle.cy_reader.proofs.Told.{bind_ok, ok_is, met_named}

pub salvage_named : (size : ℕ) (c : CutFile) (s : Salvage) → cut_salvage size c ≡ Ok s → StandOnChannels s.met.channels s.met.messages
unfolding cut_salvage
salvage_named size c s h =
    let sound = until_fault (map seen_part c.parts.items) (fault_in c.end) in
    let made : Met → Salvage = λ met. record { met = met; dropped = dropped_at size (place_before c.ends_at (slice_get c.parts.items (length sound.sections))) sound.fault } in
    let a = bind_ok (add_sections sound.sections None nothing) (λ met. Ok (made met)) s h in
    subst (λ (d : Salvage). StandOnChannels d.met.channels d.met.messages) (ok_is (made a.0) s a.1.1) (met_named sound.sections None a.0 a.1.0)
