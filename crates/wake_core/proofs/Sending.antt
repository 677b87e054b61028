-- An output that is sent and delivered.
use Rattle.std.proofs.Common.{ℕ, refl, sym, ◌∙◌, ap, subst, [], ◌∷◌, ◌++◌, slice_get}
use Rattle.cy_msg.specs.declared.token.Token.{Token}
use Rattle.wake_core.specs.Run.{readers_of, played_of}
use Rattle.wake_core.specs.Plain.{Plain, hand, Phase, unsent_of, outs_of}
use Rattle.wake_core.specs.Events.{Sends, after_send}
use Rattle.wake_core.specs.Laws as event
use Rattle.wake_core.specs.Sound.{Consistent}
use Rattle.wake_core.specs.Turns.{Delivers, OutputDelivered, IsAlone, flag_after}
use Rattle.wake_core.proofs.Places.{set_at_same, set_at_other}
use Rattle.wake_core.proofs.Taping.{send_taped, send_written, send_all}
use Rattle.wake_core.proofs.Playing.{idle_by, delivered_owes, delivered_other, delivered_arrivals, played_same}

pub delivered_by : (c : ℕ) (next : Phase) (t : Token) (w m v : Plain) → IsAlone w → Consistent w → Sends 0 c next t w m → Delivers 0 m v → OutputDelivered c next t w v
delivered_by c next t w m v alone s send d =
    let sent : Plain = after_send 0 c next t w in
    let d' : Delivers 0 sent v = subst (λ (x : Plain). Delivers 0 x v) send.effect d in
    let one = send_taped w c t send.unsent s.wired in
    record {
      events = event.more (event.send send) d.events;
      same = d'.same ∙ ap (λ (x : Plain). record w { tape = w.tape ++ t ∷ []; arrivals = v.arrivals; hands = x.hands; fills = v.fills; news = v.news; clearing = v.clearing; tokens = x.tokens; spent = v.spent }) (sym d'.same);
      arrivals = delivered_arrivals 0 sent v d' t w refl refl refl;
      spent = λ k. d'.spent k ∙ ap (λ rs. flag_after rs w k) (set_at_same 0 (readers_of w.routes t.channel) w.fills);
      in_hand = record {
        alone = λ q other. delivered_other 0 sent v d' q other (idle_by q w sent
            (set_at_other 0 (hand c next) w.hands q other)
            (set_at_other 0 (readers_of w.routes t.channel) w.fills q other) refl refl (alone q other));
        held = ap (λ (x : Plain). x.hands 0) d'.same ∙ set_at_same 0 (hand c next) w.hands;
        owes = delivered_owes 0 sent v d';
      };
      all = ap (λ (x : Plain). unsent_of x c) d'.same ∙ send_all 0 c next t w send.held send.unsent s;
      others = λ k apart. ap (λ (x : Plain). unsent_of x k) d'.same ∙ ap (slice_get (outs_of w.routes w.calls k)) (one.other k apart);
      played = ap (λ (x : Plain). played_of x.routes x.tape) d'.same ∙ played_same w.routes w.tape t c (send_written w c t send.unsent s.wired);
    }
