-- The tape's door is left after a message was put there.
use Rattle.std.proofs.Common.{ℕ, ◌+◌, ◌*◌, ◌≡◌, ◌≤◌, ◌<◌, ◌⊎◌, ◌==◌, Bool, true, false, refl, sym, ◌∙◌, ap, ap₂, subst, inl, inr, ⊎_elim, List, [], ◌∷◌, ◌++◌, length, length-set, cond, not, is_some, slice_get, slice_index, option_map, Option, Some, None, arith}
use Rattle.std.proofs.lemmas.Bool.Decides.{eqb_tells}
use Rattle.std.proofs.lemmas.Option.{none-some, slice_get_within}
use Rattle.std.proofs.Math.Seq.{take-length}
use Rattle.std.specs.Option.{option_map_or}
use mathlib.Core.Option.{some}
use Rattle.atomic_table.specs.Table.{State as Table, stepped, gives}
use Rattle.cy_msg.specs.declared.token.Token.{Token}
use Rattle.cy_msg.specs.Tokens.{on_channel}
use Rattle.cy_comp.specs.declared.call.Out.{Out}
use Rattle.cy_comp.specs.Calls.{last_outcome, held_until, output, outs}
use Rattle.cy_comp.specs.Routine.{RoutineView}
use Rattle.wake_core.specs.declared.route.Route.{Route}
use Rattle.wake_core.specs.declared.phase.Phase.{Phase}
use Rattle.wake_core.specs.declared.phase.Phase.TheVariants.{Checked, Stopping, Running}
use Rattle.wake_core.specs.Run.{set_at, readers_of, writes_from, played_of}
use Rattle.wake_core.specs.Plain.{Plain, hand, outs_of, unsent_of}
use Rattle.wake_core.specs.Events.{IsNext, Tapes, Sends, MaySend as MaySendIn, after_tape, after_send}
use Rattle.wake_core.specs.Sound.{Consistent}
use Rattle.wake_core.specs.Laws.{KeepsSound, SendLaws}
use Rattle.wake_core.specs.TapeLaws.{IsUnsent, UnsentLaws, PutLaws}
use Rattle.cy_table.specs.declared.part.Part.{Part}
use Rattle.cy_table.specs.declared.part.Part.TheVariants as part
use Rattle.cy_table.specs.Seats.{Seat, Grip, TapeView}
use Rattle.cy_table.specs.Shown.{Rooms, Home, Kept, spread, routine_in, routine_of, hand_of, routine_at, visitor_at, tape_at, out_in}
use Rattle.cy_table.specs.Rule.{Shows, ShowsParts}
use Rattle.cy_table.specs.Steps.{Sits, Becomes, with_message, MayTape, taping, MaySend, out_at, output_at, phase_sent, sent_grip, sending}
use Rattle.cy_table.proofs.Places.{other, shown_still, shown_anew, token_anew, after, spread_gives}
use Rattle.cy_table.proofs.Parts.{routine_beside, routine_turned, same_words}
use Rattle.cy_table.proofs.Knowing.{Grows, rules_after}
use Rattle.cy_table.proofs.Holding.{wide_is, deep_is, seat_is, seat_in, hand_is, in_phase, routine_known, last_known, owes_known, mine}
use Rattle.cy_table.proofs.Doors.{tape_others, tape_given, tape_known}

-- On a channel that no component writes, all messages were played.
keeps_played : (routes : List Route) (channel : ℕ) → writes_from 0 routes channel ≡ None → (tape : List Token) → on_channel channel (played_of routes tape) ≡ on_channel channel tape
keeps_played routes channel un [] = refl
keeps_played routes channel un (t ∷ rest) = elim (eqb_tells t.channel channel) [
  | inl h ↦
      ap (λ (o : Option ℕ). on_channel channel (cond (not (is_some o)) (t ∷ played_of routes rest) (played_of routes rest))) (ap (writes_from 0 routes) h.1 ∙ un)
      ∙ (ap (λ b. cond b (t ∷ on_channel channel (played_of routes rest)) (on_channel channel (played_of routes rest))) h.0
      ∙ (ap (λ (l : List Token). t ∷ l) (keeps_played routes channel un rest) ∙ sym (ap (λ b. cond b (t ∷ on_channel channel rest) (on_channel channel rest)) h.0)))
  | inr h ↦ left_out h.0 (not (is_some (writes_from 0 routes t.channel)))
      ∙ (keeps_played routes channel un rest ∙ sym (ap (λ b. cond b (t ∷ on_channel channel rest) (on_channel channel rest)) h.0))
]
  where
    left_out : (t.channel == channel) ≡ false → (b : Bool) → on_channel channel (cond b (t ∷ played_of routes rest) (played_of routes rest)) ≡ on_channel channel (played_of routes rest)
    left_out differs true = ap (λ b. cond b (t ∷ on_channel channel (played_of routes rest)) (on_channel channel (played_of routes rest))) differs
    left_out differs false = refl

abbrev out_or : Out → Option Out → Out
out_or d None = d
out_or d (Some o) = o

pub record IsShownBy (u : Option Token) (o : Out) : Type 0 where
  pub from : Token
  pub is : u ≡ Some from
  pub shows : out_in from ≡ o

pub shown_by : (u : Option Token) (o : Out) → option_map out_in u ≡ Some o → IsShownBy u o
shown_by None o e = absurd (none-some o e)
shown_by (Some t) o e = record { from = t; is = refl; shows = ap (out_or o) e }

-- The unsent output of a component, by what its routine says waits.
token_from : (w : Plain) (c : ℕ) (t : Token) (u : IsUnsent w c t) → t ≡ output u.route.out (length (on_channel u.route.out w.tape) + 1) (out_in t)
token_from w c t u = λ k. record { channel = u.its k; seq = u.number k; time = t.time; whole = t.whole; origin = t.origin }

output_is : (w : Plain) (c : ℕ) (o : Out) (m : IsShownBy (unsent_of w c) o) (u : IsUnsent w c m.from) → output_at w.routes c w.tape o ≡ m.from
output_is w c o m u =
    ap (λ channel. output channel (length (on_channel channel w.tape) + 1) o) (ap (λ (x : Option Route). option_map_or (λ (y : Route). y.out) x 0) u.at)
    ∙ (ap (output u.route.out (length (on_channel u.route.out w.tape) + 1)) (sym m.shows) ∙ sym (token_from w c m.from u))

-- A routine, when so many of its outputs stand on the tape.
abbrev as_taped : Rooms → Plain → ℕ → ℕ → RoutineView
as_taped r w d n = record (routine_at r w d) { pending = option_map out_in (slice_get (outs_of w.routes w.calls d) n) }

module _ (r : Rooms) (w : Plain) (s : Table Part Seat) (v : Seat) (sits : Sits r w s 0 v) where
  unwritten_known : (m : Token) → MayTape v m → writes_from 0 w.routes m.channel ≡ None
  unwritten_known m may = ap (λ (l : List Route). writes_from 0 l m.channel) (sym ((mine r w s 0 v sits).made sits.live).0) ∙ may.unwritten

  -- The player's next message is the world's.
  pub next_known : (m : Token) → MayTape v m → IsNext m w
  next_known m may =
      let k = mine r w s 0 v sits in
      let un = unwritten_known m may in record {
        unwritten = un;
        next = may.next ∙ (ap (λ (l : List Token). length (on_channel m.channel l) + 1) (k.player refl).0 ∙ ap (λ (l : List Token). length l + 1) (keeps_played w.routes m.channel un w.tape));
        within = subst (λ (l : List ℕ). m.seq ≤ slice_index l m.channel) (k.made sits.live).1 may.within;
      }

  -- The player puts a message there.
  pub tape_becomes : (x : TapeView) (m : Token) → v.tape ≡ Some x → MayTape v m → (out : List (ℕ × Part)) → KeepsSound (Tapes m) → PutLaws
      → Becomes r (Tapes m) w (stepped s 3 0 0 ((0, part.Tape (with_message x m)) ∷ out) (taping v m) gives)
  tape_becomes x m has may out keep put =
      let t = spread s in
      let x' : TapeView = with_message x m in
      let back : Home = some (some (part.Tape x')) in
      let h = set_at 0 back t.home in
      let v' : Seat = taping v m in
      let w' : Plain = after_tape 0 m w in
      let at = seat_is r w s 0 v sits in
      let th = sits.rules.shows.threads in
      let k = mine r w s 0 v sits in
      let made = k.made sits.live in
      let player = k.player refl in
      let un : writes_from 0 w.routes m.channel ≡ None = unwritten_known m may in
      let known : x ≡ tape_at r w = tape_known r w s 0 v sits x has in
      let next : IsNext m w = next_known m may in
      let happens : Tapes m w w' = record {
        owes = owes_known r w s 0 v sits may.owes;
        raised = λ given there count. sym player.3 ∙ may.raised given (made.2 ∙ there) (ap length player.0 ∙ count);
        next = next;
        now = may.now ∙ player.1;
        effect = refl;
      } in
      let grows : Grows w.routes w.tape w'.tape w.clock w.clock w.calls w.calls w.closing w.closing w.raised w.raised 0 = record {
        rises = omega arith;
        begins = λ c. take-length (w.calls c);
        closes = λ e. e;
        player = λ ne. absurd (ne refl);
      } in
      let kept : (d : ℕ) → d < length w.routes → Kept (routine_in (h (2 * d + 1))) (set_at 3 0 t.word (4 * d + 4)) (λ j. routine_of d (set_at 0 v' t.seat j).hand) (routine_at r w' d) = λ d less.
      subst (λ (y : RoutineView). Kept (routine_in (h (2 * d + 1))) (set_at 3 0 t.word (4 * d + 4)) (λ j. routine_of d (set_at 0 v' t.seat j).hand) y) (ap (as_taped r w d) (sym (put.no_output w m un d)))
      (routine_beside sits.rules.shows.parts 3 0 0 v' h d less (other 3 0 t.word (4 * d + 4) (λ e. omega arith)) (other 0 back t.home (2 * d + 1) (λ e. omega arith)) (ap (λ (u : Seat). routine_of d u.hand) (sym at))) in
      let shows : Shows r w' (after t 3 0 0 v' h) = record {
        parts = subst (λ (y : TapeView). ShowsParts (length w.routes) y (routine_at r w') (visitor_at r w') (after t 3 0 0 v' h)) (ap (λ (y : TapeView). with_message y m) known)
            (tape_given sits.rules.shows.parts 0 v' x x' (routine_at r w') (ap (λ (u : Seat). u.tape) at ∙ has) refl (ap (λ (u : Seat). u.visit) (sym at)) kept);
        words = same_words 3 0 (tape_others (length w.routes) 0 t.word) sits.rules.shows.words;
        threads = record {
          hand_is = shown_still (λ (u : Seat). hand_of u.hand) t.seat w.hands th.hand_is 0 v' (ap (λ (u : Seat). hand_of u.hand) (sym at));
          fills_are = shown_anew (λ (u : Seat). u.fills) t.seat w.fills th.fills_are 0 v' (readers_of w.routes m.channel) (ap (λ (l : List Route). readers_of l m.channel) (sym made.0));
          news_are = shown_still (λ (u : Seat). u.news) t.seat w.news th.news_are 0 v' (ap (λ (u : Seat). u.news) (sym at));
          clearing_is = shown_still (λ (u : Seat). u.clearing) t.seat w.clearing th.clearing_is 0 v' (ap (λ (u : Seat). u.clearing) (sym at));
          token_is = token_anew t.seat w.tokens w.fills th.token_is 0 v' m (readers_of w.routes m.channel) refl;
        };
      } in record {
        world = w';
        routes = refl;
        counts = refl;
        stop = refl;
        happens = happens;
        rules = rules_after r w s 0 v sits w' refl refl refl grows v' 3 0 ((0, part.Tape x') ∷ out) gives (keep w w' happens sits.rules.sound)
            (subst (Shows r w') (sym (spread_gives s 3 0 0 v' out (omega (arith, wide_is r w s 0 v sits)) (seat_in r w s 0 v sits) 0 (part.Tape x') (omega (arith, deep_is r w s 0 v sits)))) shows)
            (length-set s.homes 0 (some (part.Tape x'))) refl refl
            record {
              made = k.made;
              joined = λ z. absurd (sits.live z);
              calls = k.calls;
              past = k.past;
              closes = k.closes;
              player = λ z. (ap (λ (l : List Token). l ++ m ∷ []) (k.player z).0 ∙ sym (put.played w.routes w.tape m un), (k.player z).1, (k.player z).2, (k.player z).3);
            };
      }

module _ (r : Rooms) (w : Plain) (s : Table Part Seat) (id : ℕ) (v : Seat) (sits : Sits r w s id v) where
  may_send : (g : Grip) → v.hand ≡ Some g → MaySend v g → MaySendIn id g.croutine (phase_sent g.phase) w
  may_send g e may = ⊎_elim
      (λ (p : (g.phase ≡ Running) × (held_until (last_outcome g.routine.kind g.routine.calls) ≡ None)).
      inl (in_phase r w s id v sits g Running e p.0, ap held_until (last_known r w s id v sits g e) ∙ p.1, ap phase_sent p.0))
      (λ (q : (g.phase ≡ Checked) ⊎ (g.phase ≡ Stopping)). inr (⊎_elim
      (λ (p : g.phase ≡ Checked). inl (in_phase r w s id v sits g Checked e p, ap phase_sent p))
      (λ (p : g.phase ≡ Stopping). inr (in_phase r w s id v sits g Stopping e p, ap phase_sent p))
      q))
      may.sends

  -- The output that waits is the last of the component's outputs.
  pub number_known : UnsentLaws → (g : Grip) (o : Out) → v.hand ≡ Some g → g.routine.pending ≡ Some o
      → length (on_channel (out_at v.routes g.croutine) w.tape) + 1 ≡ length (outs (out_at v.routes g.croutine) g.routine.calls)
  number_known law g o e pends =
      let c : ℕ = g.croutine in
      let routine_is : g.routine ≡ routine_at r w c = routine_known r w s id v sits g e in
      let by : IsShownBy (unsent_of w c) o = shown_by (unsent_of w c) o (sym (ap (λ (y : RoutineView). y.pending) routine_is) ∙ pends) in
      let u : IsUnsent w c by.from = law.next w c by.from by.is in
      let channel_is : out_at v.routes c ≡ u.route.out =
      ap (λ (l : List Route). out_at l c) ((mine r w s id v sits).made sits.live).0 ∙ ap (λ (x : Option Route). option_map_or (λ (y : Route). y.out) x 0) u.at in
      let but_last = sits.rules.sound.consistent.delivered.but_last c u.route u.at in
      let few = law.one u.route.out (w.calls c) in
      let more = slice_get_within (outs u.route.out (w.calls c)) (length (on_channel u.route.out w.tape)) by.from u.next in
      let count : length (on_channel u.route.out w.tape) + 1 ≡ length (outs u.route.out (w.calls c)) = omega (arith, but_last, few, more) in
      subst (λ channel. length (on_channel channel w.tape) + 1 ≡ length (outs channel g.routine.calls)) (sym channel_is) (count ∙ ap (λ (y : RoutineView). length (outs u.route.out y.calls)) (sym routine_is))

  -- A holder puts its output there.
  pub send_becomes : (g : Grip) (x : TapeView) (o : Out) → v.hand ≡ Some g → v.tape ≡ Some x → g.routine.pending ≡ Some o → MaySend v g → (out : List (ℕ × Part)) → SendLaws → UnsentLaws → PutLaws
      → Becomes r (Sends id g.croutine (phase_sent g.phase) (output_at v.routes g.croutine x.messages o)) w
      (stepped s 3 0 id ((0, part.Tape (with_message x (output_at v.routes g.croutine x.messages o))) ∷ out) (sending v g (output_at v.routes g.croutine x.messages o)) gives)
  send_becomes g x o e has pends may out law unsent_law put =
      let t = spread s in
      let c : ℕ = g.croutine in
      let next : Phase = phase_sent g.phase in
      let m : Token = output_at v.routes c x.messages o in
      let x' : TapeView = with_message x m in
      let back : Home = some (some (part.Tape x')) in
      let h = set_at 0 back t.home in
      let v' : Seat = sending v g m in
      let w' : Plain = after_send id c next m w in
      let at = seat_is r w s id v sits in
      let th = sits.rules.shows.threads in
      let k = mine r w s id v sits in
      let made = k.made sits.live in
      let consistent : Consistent w = sits.rules.sound.consistent in
      let known : x ≡ tape_at r w = tape_known r w s id v sits x has in
      let routine_is : g.routine ≡ routine_at r w c = routine_known r w s id v sits g e in
      let by : IsShownBy (unsent_of w c) o = shown_by (unsent_of w c) o (sym (ap (λ (y : RoutineView). y.pending) routine_is) ∙ pends) in
      let u : IsUnsent w c by.from = unsent_law.next w c by.from by.is in
      let m_is : m ≡ by.from = ap₂ (λ (l : List Route) (ms : List Token). output_at l c ms o) made.0 (ap (λ (y : TapeView). y.messages) known) ∙ output_is w c o by u in
      let unsent : unsent_of w c ≡ Some m = by.is ∙ ap Some (sym m_is) in
      let written : writes_from 0 w.routes m.channel ≡ Some c = put.written w c m unsent consistent.wired in
      let sends = may_send g e may in
      let all : unsent_of w' c ≡ None = law.all id c next m w sends unsent consistent in
      let happens : Sends id c next m w w' = record { owes = owes_known r w s id v sits may.owes; held = sends; unsent = unsent; effect = refl } in
      let grows : Grows w.routes w.tape w'.tape w.clock w.clock w.calls w.calls w.closing w.closing w.raised w.raised id = record {
        rises = omega arith;
        begins = λ d. take-length (w.calls d);
        closes = λ z. z;
        player = λ ne. (put.not_played w.routes w.tape m c written, refl, refl, refl);
      } in
      let shows : Shows r w' (after t 3 0 id v' h) = record {
        parts = subst (λ (y : TapeView). ShowsParts (length w.routes) y (routine_at r w') (visitor_at r w') (after t 3 0 id v' h)) (ap (λ (y : TapeView). with_message y m) known)
            (tape_given sits.rules.shows.parts id v' x x' (routine_at r w') (ap (λ (z : Seat). z.tape) at ∙ has) refl (ap (λ (z : Seat). z.visit) (sym at))
            (λ d less. routine_turned sits.rules.shows.parts 3 0 id v' h (routine_at r w') g (sent_grip g) (hand_is r w s id v sits g e) refl refl
            (ap (λ (y : RoutineView). let z : RoutineView = record y { pending = None } in z) routine_is
            ∙ ap (λ (p : Option Out). let z : RoutineView = record (routine_at r w c) { pending = p } in z) (sym (ap (option_map out_in) all)))
            (λ b ne. ap (as_taped r w b) (sym (put.others w c m unsent consistent.wired b ne)))
            d less (other 3 0 t.word (4 * d + 4) (λ z. omega arith)) (other 0 back t.home (2 * d + 1) (λ z. omega arith))));
        words = same_words 3 0 (tape_others (length w.routes) 0 t.word) sits.rules.shows.words;
        threads = record {
          hand_is = shown_anew (λ (z : Seat). hand_of z.hand) t.seat w.hands th.hand_is id v' (hand c next) refl;
          fills_are = shown_anew (λ (z : Seat). z.fills) t.seat w.fills th.fills_are id v' (readers_of w.routes m.channel) (ap (λ (l : List Route). readers_of l m.channel) (sym made.0));
          news_are = shown_still (λ (z : Seat). z.news) t.seat w.news th.news_are id v' (ap (λ (z : Seat). z.news) (sym at));
          clearing_is = shown_still (λ (z : Seat). z.clearing) t.seat w.clearing th.clearing_is id v' (ap (λ (z : Seat). z.clearing) (sym at));
          token_is = token_anew t.seat w.tokens w.fills th.token_is id v' m (readers_of w.routes m.channel) refl;
        };
      } in record {
        world = w';
        routes = refl;
        counts = refl;
        stop = refl;
        happens = happens;
        rules = rules_after r w s id v sits w' refl refl refl grows v' 3 0 ((0, part.Tape x') ∷ out) gives (law.sound id c next m w w' happens sits.rules.sound)
            (subst (Shows r w') (sym (spread_gives s 3 0 id v' out (omega (arith, wide_is r w s id v sits)) (seat_in r w s id v sits) 0 (part.Tape x') (omega (arith, deep_is r w s id v sits)))) shows)
            (length-set s.homes 0 (some (part.Tape x'))) refl refl
            record {
              made = k.made;
              joined = λ z. absurd (sits.live z);
              calls = k.calls;
              past = k.past;
              closes = k.closes;
              player = λ z. ((k.player z).0 ∙ sym (put.not_played w.routes w.tape m c written), (k.player z).1, (k.player z).2, (k.player z).3);
            };
      }
