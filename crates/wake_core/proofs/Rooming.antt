-- What a call more, and a message more on the tape, keep of the room.
use Rattle.std.proofs.Common.{ℕ, ◌+◌, ◌≡◌, ◌≤◌, ◌<◌, sym, ap, inl, inr, arith, List, [], ◌∷◌, ◌++◌, length, Some, slice_get, length-append}
use Rattle.cy_msg.specs.declared.token.Token.{Token}
use Rattle.cy_msg.specs.Tokens.{on_channel}
use Rattle.cy_msg.proofs.Lists.{place, get_snoc}
use Rattle.cy_comp.specs.declared.call.Call.{Call}
use Rattle.wake_core.specs.Run.{Route, set_at}
use Rattle.wake_core.specs.Planned.{planned_count, first_reader}
use Rattle.wake_core.specs.Sound.{Room}
use Rattle.wake_core.proofs.Places.{set_at_there, set_at_other}
use Rattle.wake_core.proofs.Arrived.{on_channel-own, on_channel-other}

module _ {routes : List Route} {counts : List ℕ} {calls : ℕ → List Call} {tape : List Token} where
  pub tape_room : (t : Token) → length (on_channel t.channel tape) + 1 ≤ planned_count routes counts t.channel → t.channel < length counts
      → Room routes counts calls tape → Room routes counts calls (tape ++ t ∷ [])
  tape_room t fits known h = record {
    taped = λ channel. elim (place t.channel channel) [
      | inl e ↦ rw (on_channel-own channel tape t e, sym e) (one_more t (on_channel t.channel tape) (planned_count routes counts t.channel) fits)
      | inr e ↦ rw (on_channel-other channel tape t e) (h.taped channel)
    ];
    called = h.called;
    channels = λ n s at. elim (get_snoc tape t n s at) [
      | inl b ↦ h.channels n s b
      | inr b ↦ let same : s.channel ≡ t.channel = ap (λ (u : Token). u.channel) (sym b.1) in rw same known
    ];
  }
    where
      one_more : (t : Token) (xs : List Token) (most : ℕ) → length xs + 1 ≤ most → length (xs ++ t ∷ []) ≤ most
      one_more t xs most l = omega (arith, length-append xs (t ∷ []))

  pub call_room : (c : ℕ) (call : Call) → ((x : Route) → slice_get routes c ≡ Some x → length (calls c ++ call ∷ []) ≤ planned_count routes counts (first_reader x))
      → Room routes counts calls tape → Room routes counts (set_at c (calls c ++ call ∷ []) calls) tape
  call_room c call fits h = record {
    taped = h.taped;
    called = λ k x at. elim (place k c) [
      | inl e ↦ let at' = rw e at at in rw (set_at_there c (calls c ++ call ∷ []) calls k e) (fits x at')
      | inr e ↦ rw (set_at_other c (calls c ++ call ∷ []) calls k e) (h.called k x at)
    ];
    channels = h.channels;
  }
