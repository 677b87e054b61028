use Rattle.std.proofs.Common.{ℕ, ◌<◌, length, subst}
use Rattle.std.proofs.lemmas.List.Elements.{All-filter, All-get_or}
use Rattle.std.proofs.lemmas.List.Sorted.{All-permutation}
use Rattle.std.proofs.lemmas.Option.{slice_get_within, get_or_from_slice_get}
use Rattle.cy_play_list.specs.Play.{all_places, chosen, is_played}
use Rattle.cy_play_list.proofs.Playing.{places-below}
use Rattle.cy_recording.proofs.recording.laws.played_places_are_there.Goals as goal

pub returns : goal.returns
returns c = λ whole choice list h n place here.
    let below : ℕ → Type 0 = λ p. p < length whole.messages in
    let all = All-permutation below (chosen whole choice) list.places h.order.same
    (All-filter (is_played whole choice) below (all_places whole) (places-below (length whole.messages))) in
    subst below (get_or_from_slice_get list.places n place 0 here) (All-get_or below list.places n 0 (slice_get_within list.places n place here) all)
