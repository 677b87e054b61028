-- What is due comes.
use Rattle.std.proofs.Common.{IfSome, ℕ, zero, suc, ◌+◌, ◌≡◌, ◌≤◌, ◌<◌, true, refl, sym, ◌∙◌, ap, arith, List, [], ◌∷◌, ◌++◌, length, take, map, Some, None, Option, slice_get, slice_index, get_or, ◌==◌, length-append}
use Rattle.std.proofs.lemmas.Bool.Decides.{nat_tests}
use Rattle.std.proofs.lemmas.Option.{slice_get_within}
use Rattle.cy_msg.specs.declared.token.Token.{Token}
use Rattle.cy_msg.specs.Tokens.{on_channel}
use Rattle.cy_fuse.specs.Fusion.{Arrival, added, fused}
use Rattle.cy_fuse.specs.Visitor.{VisitorView, arrived, tuples_at}
use Rattle.wake_core.specs.declared.route.Route.{Route}
use Rattle.wake_core.specs.Plain.{of_role}
use Rattle.wake_core.proofs.Cited.{fused-append}
use Rattle.cy_verify.specs.declared.follower.Follower.{Follower}
use Rattle.cy_verify.specs.private.Following.{IsSearched, IsNextOn, Stays}
use Rattle.cy_verify.specs.private.Leading.{IsDue, IsHere, Awaits, AwaitsTo}
use Rattle.cy_verify.proofs.Heard.{Listening, index_there, get_there}
use Rattle.cy_verify.proofs.CallMade.{shorter}
use Rattle.cy_verify.proofs.Placed.{on_beginning}
use Rattle.cy_verify.proofs.Fusing.{added_few}
use Rattle.std.proofs.lemmas.List.{length-map}
use Rattle.cy_msg.proofs.Lists.{get_append, get_last, take_next, there}

one : {X : Type 0} {a b : X} → Some a ≡ Some b → a ≡ b
one e = cc

-- The reader that a due message comes to reads its channel.
pub due_reader : {x : Route} {role : ℕ} {t : Token} {f : Follower} {tape : List Token} → IsDue x role t f tape → (role < length x.readers) × (slice_index x.readers role ≡ t.channel)
due_reader {x} {role} {t} d =
    let inside = slice_get_within x.readers role t.channel d.reads in
    (inside, one (sym (index_there x.readers role inside) ∙ d.reads))

-- There is a next message where one is due.
pub due_found : (x : Route) (role : ℕ) (t : Token) (f : Follower) (tape : List Token) → IsDue x role t f tape → IsSearched x f.visitor.arrivals f.searched tape
    → on_channel (slice_index x.readers role) tape ≡ on_channel (slice_index x.readers role) (take (slice_index f.searched role) tape) → ⊥
due_found x role t f tape d s none =
    let is = (due_reader d).1 in
    let all : on_channel t.channel tape ≡ of_role role f.visitor.arrivals =
    ap (λ c. on_channel c tape) (sym is) ∙ none ∙ ap (λ c. on_channel c (take (slice_index f.searched role) tape)) is ∙ sym (s.heard role t.channel d.reads) in
    absurd (less (slice_get_within (on_channel t.channel tape) (length (of_role role f.visitor.arrivals)) t d.stands) (ap length all))
  where
    less : {a b : ℕ} → a < b → b ≡ a → ⊥
    less l e = omega (arith, l, e)

-- .. and it is that one.
pub due_comes : (x : Route) (role place : ℕ) (t u : Token) (f : Follower) (tape : List Token) (v : VisitorView) → IsDue x role t f tape → IsSearched x f.visitor.arrivals f.searched tape
    → IsNextOn (slice_index x.readers role) (slice_index f.searched role) tape place → v ≡ arrived f.visitor role (get_or tape place u) → v.arrivals ≡ f.visitor.arrivals ++ (role, t) ∷ []
due_comes x role place t u f tape v d s n came =
    let is = (due_reader d).1 in
    let before : on_channel (slice_index x.readers role) (take (slice_index f.searched role) tape) ≡ of_role role f.visitor.arrivals =
    ap (λ c. on_channel c (take (slice_index f.searched role) tape)) is ∙ sym (s.heard role t.channel d.reads) in
    let part : on_channel (slice_index x.readers role) (take (place + 1) tape) ≡ of_role role f.visitor.arrivals ++ n.token ∷ [] = n.searched ∙ ap (λ l. l ++ n.token ∷ []) before in
    let at : slice_get (on_channel (slice_index x.readers role) (take (place + 1) tape)) (length (of_role role f.visitor.arrivals)) ≡ Some n.token =
    ap (λ l. slice_get l (length (of_role role f.visitor.arrivals))) part ∙ get_last (of_role role f.visitor.arrivals) n.token in
    let inside : slice_get (on_channel (slice_index x.readers role) tape) (length (of_role role f.visitor.arrivals)) ≡ Some n.token =
    in_whole (slice_index x.readers role) (place + 1) tape (length (of_role role f.visitor.arrivals)) n.token at in
    let same : n.token ≡ t = one (sym inside ∙ ap (λ c. slice_get (on_channel c tape) (length (of_role role f.visitor.arrivals))) is ∙ d.stands) in
    ap (λ (w : VisitorView). w.arrivals) came ∙ ap (λ (m : Token). f.visitor.arrivals ++ (role, m) ∷ []) (get_there tape place u n.token n.at ∙ same)
  where
    taken_few : {X : Type 0} (k : ℕ) (xs : List X) → take k xs ≡ take (length (take k xs)) xs
    taken_few zero xs = refl
    taken_few (suc k) [] = refl
    taken_few (suc k) (y ∷ xs) = ap (λ l. y ∷ l) (taken_few k xs)

    in_whole : (channel k : ℕ) (xs : List Token) (i : ℕ) (m : Token) → slice_get (on_channel channel (take k xs)) i ≡ Some m → slice_get (on_channel channel xs) i ≡ Some m
    in_whole channel k xs i m e =
        ap (λ l. slice_get l i) (on_beginning (take k xs) xs (taken_few k xs) channel) ∙ get_append (on_channel channel (take k xs)) _ i m e

mapped : {X Y : Type 0} (f : X → Y) (xs : List X) (n : ℕ) (y : X) → slice_get xs n ≡ Some y → slice_get (map f xs) n ≡ Some (f y)
mapped f [] n y e = cc
mapped f (z ∷ xs) zero y e = ap (λ w. Some (f w)) (one e)
mapped f (z ∷ xs) (suc n) y e = mapped f xs n y e

-- As many arrivals are awaited as roles are told.
roles_many : {x : Route} {roles : List ℕ} {arrivals : List Arrival} {f : Follower} → Awaits x roles arrivals f → length arrivals ≡ length roles
roles_many {arrivals = arrivals} w = sym (length-map arrivals (λ (a : Arrival). a.0)) ∙ ap length w.roles_told

-- The next arrival that is awaited.
pub record Next (x : Route) (roles : List ℕ) (arrivals : List Arrival) (n : ℕ) (f : Follower) (tape : List Token) : Type 0 where
  pub arrival : Arrival
  pub at : slice_get arrivals n ≡ Some arrival
  pub role : slice_index roles n ≡ arrival.0
  pub due : IsDue x (slice_index roles n) arrival.1 f tape

pub due_next : {x : Route} {roles : List ℕ} {arrivals : List Arrival} {f : Follower} (tape : List Token) (n : ℕ) → Awaits x roles arrivals f → length f.visitor.arrivals ≡ n → n < length roles
    → ((a : Arrival) → slice_get arrivals n ≡ Some a → IsHere x arrivals tape n a) → Next x roles arrivals n f tape
due_next {x} {roles} {arrivals} {f} tape n w many inside here =
    let a = there arrivals n (omega (arith, inside, roles_many w)) in
    let h = here a.0 a.1 in
    let role : slice_index roles n ≡ a.0.0 = one (sym (index_there roles n inside) ∙ ap (λ l. slice_get l n) (sym w.roles_told) ∙ mapped (λ (b : Arrival). b.0) arrivals n a.0 a.1) in
    let came : take n arrivals ≡ f.visitor.arrivals = ap (λ k. take k arrivals) (sym many) ∙ sym w.came in
    record {
      arrival = a.0;
      at = a.1;
      role = role;
      due = record {
        reads = ap (slice_get x.readers) role ∙ h.reads;
        stands = ap (λ (us : List Arrival). slice_get (on_channel a.0.1.channel tape) (length (of_role (slice_index roles n) us))) (sym came)
            ∙ ap (λ j. slice_get (on_channel a.0.1.channel tape) (length (of_role j (take n arrivals)))) role ∙ h.stands;
        room = omega (arith, w.room, many, inside, roles_many w);
      };
    }

-- .. and when it came.
pub next_came : {x : Route} {roles : List ℕ} {arrivals : List Arrival} {f g : Follower} {tape : List Token} {n : ℕ} → Awaits x roles arrivals f → length f.visitor.arrivals ≡ n → (m : Next x roles arrivals n f tape) → Stays f g
    → g.visitor.arrivals ≡ f.visitor.arrivals ++ (slice_index roles n, m.arrival.1) ∷ [] → Awaits x roles arrivals g
next_came {x} {roles} {arrivals} {f} {g} {tape} {n} w many m s came = record {
  came = came ∙ ap (λ (r : ℕ). f.visitor.arrivals ++ (r, m.arrival.1) ∷ []) m.role ∙ ap (λ (us : List Arrival). us ++ m.arrival ∷ []) (w.came ∙ ap (λ k. take k arrivals) many)
      ∙ sym (take_next arrivals n m.arrival m.at) ∙ ap (λ k. take k arrivals) (sym more);
  roles_told = w.roles_told;
  room = rw s.arrivals w.room;
}
  where
    more : length g.visitor.arrivals ≡ n + 1
    more = ap length came ∙ length-append f.visitor.arrivals ((slice_index roles n, m.arrival.1) ∷ []) ∙ ap (λ k. k + 1) many

pub next_came_to : {x : Route} {roles : List ℕ} {arrivals : List Arrival} {tail : ℕ} {f g : Follower} {tape : List Token} {n : ℕ} → AwaitsTo x roles arrivals tail f tape → length f.visitor.arrivals ≡ n
    → length (fused f.visitor.arrivals (length x.readers)) < tail → (m : Next x roles arrivals n f tape) → Stays f g
    → g.visitor.arrivals ≡ f.visitor.arrivals ++ (slice_index roles n, m.arrival.1) ∷ [] → AwaitsTo x roles arrivals tail g tape
next_came_to {x} {roles} {arrivals} {tail} {f} {g} {tape} {n} w many less m s came =
    let grown : length (fused g.visitor.arrivals (length x.readers)) ≡ length (fused f.visitor.arrivals (length x.readers)) + length (added (length x.readers) f.visitor.arrivals (slice_index roles n, m.arrival.1)) =
    ap (λ (us : List Arrival). length (fused us (length x.readers))) came ∙ ap length (fused-append (length x.readers) f.visitor.arrivals (slice_index roles n, m.arrival.1)) ∙ length-append (fused f.visitor.arrivals (length x.readers)) (added (length x.readers) f.visitor.arrivals (slice_index roles n, m.arrival.1)) in
    record {
      awaits = next_came w.awaits many m s came;
      here = w.here;
      begun = omega (arith, less, grown, added_few (length x.readers) f.visitor.arrivals (slice_index roles n, m.arrival.1));
      reached = w.reached;
    }

-- Where so many tuples are awaited as aren't fused yet, the next arrival is due.
pub due_next_to : {x : Route} {roles : List ℕ} {arrivals : List Arrival} {tail : ℕ} {f : Follower} (tape : List Token) (n : ℕ) → AwaitsTo x roles arrivals tail f tape → length f.visitor.arrivals ≡ n → n < length roles
    → length (fused f.visitor.arrivals (length x.readers)) < tail → Next x roles arrivals n f tape
due_next_to {x} {roles} {arrivals} {tail} {f} tape n w many inside less =
    let came : take n arrivals ≡ f.visitor.arrivals = ap (λ k. take k arrivals) (sym many) ∙ sym w.awaits.came in
    due_next tape n w.awaits many inside (λ a at. w.here n a at (rw came less))

-- All came where as many did as are told.
pub all_came : {x : Route} {roles : List ℕ} {arrivals : List Arrival} {f : Follower} → Awaits x roles arrivals f → length roles ≤ length f.visitor.arrivals → f.visitor.arrivals ≡ arrivals
all_came {x} {roles} {arrivals} {f} w l = w.came ∙ whole arrivals (length f.visitor.arrivals) (omega (arith, l, roles_many w))
  where
    whole : {X : Type 0} (xs : List X) (n : ℕ) → length xs ≤ n → take n xs ≡ xs
    whole [] zero l = refl
    whole [] (suc n) l = refl
    whole (y ∷ xs) zero l = absurd (omega (arith, l))
    whole (y ∷ xs) (suc n) l = ap (λ k. y ∷ k) (whole xs n (omega (arith, l)))

-- So many tuples are fused where that many are reached.
pub tail_at_end : {x : Route} {roles : List ℕ} {arrivals : List Arrival} {tail : ℕ} {f : Follower} {tape : List Token} → AwaitsTo x roles arrivals tail f tape → length roles ≤ length f.visitor.arrivals → length (fused f.visitor.arrivals (length x.readers)) ≡ tail
tail_at_end {x} {tail = tail} {f = f} w l =
    let all = ap (λ (us : List Arrival). length (fused us (length x.readers))) (all_came w.awaits l) in
    omega (arith, w.begun, w.reached, all)

pub tail_reached : {x : Route} {roles : List ℕ} {arrivals : List Arrival} {tail : ℕ} {f : Follower} {tape : List Token} → AwaitsTo x roles arrivals tail f tape → tail ≤ length (fused f.visitor.arrivals (length x.readers)) → length (fused f.visitor.arrivals (length x.readers)) ≡ tail
tail_reached w l = omega (arith, w.begun, l)

-- So many arrivals came, as they are told, and what was awaited still is.
pub record ListeningTo (x : Route) (roles : List ℕ) (tail : ℕ) (tape : List Token) (f g : Follower) (n : ℕ) : Type 0 where
  pub listening : Listening x roles tape f g n
  pub awaits : (arrivals : List Arrival) → AwaitsTo x roles arrivals tail f tape → AwaitsTo x roles arrivals tail g tape

pub record HearingRest (x : Route) (roles : List ℕ) (tape : List Token) (f g : Follower) (n : ℕ) : Type 0 where
  pub listening : Listening x roles tape f g n
  pub awaits : (arrivals : List Arrival) → Awaits x roles arrivals f → ((n : ℕ) (a : Arrival) → slice_get arrivals n ≡ Some a → IsHere x arrivals tape n a) → Awaits x roles arrivals g

same_tails : {a b : ℕ} → a ≡ b → (a == b) ≡ true
same_tails e = grind (arith, nat_tests, e)

pub tuples_its : (x : Route) (v : VisitorView) → v.roles ≡ length x.readers → length (tuples_at v) ≡ length (fused v.arrivals (length x.readers))
tuples_its x v e = ap (λ (k : ℕ). length (fused v.arrivals k)) e

-- What is said of how many tuples are fused, where enough are, ..
pub tells_reached : {x : Route} {roles : List ℕ} {arrivals : List Arrival} {tail : ℕ} {f : Follower} {tape : List Token} → AwaitsTo x roles arrivals tail f tape → f.visitor.roles ≡ length x.readers
    → (k n : ℕ) → k ≡ length (tuples_at f.visitor) → tail ≤ k → n ≡ length (tuples_at f.visitor) → (n == tail) ≡ true
tells_reached {x} {f = f} w its k n e l e' =
    let same = tuples_its x f.visitor its in
    same_tails (e' ∙ same ∙ tail_reached w (omega (arith, same, e, l)))

-- .. and where all came.
pub tells_all : {x : Route} {roles : List ℕ} {arrivals : List Arrival} {tail : ℕ} {f : Follower} {tape : List Token} → AwaitsTo x roles arrivals tail f tape → f.visitor.roles ≡ length x.readers
    → (n : ℕ) → length roles ≤ length f.visitor.arrivals → n ≡ length (tuples_at f.visitor) → (n == tail) ≡ true
tells_all {x} {f = f} w its n l e = same_tails (e ∙ tuples_its x f.visitor its ∙ tail_at_end w l)

-- As long as fewer are, the next arrival is due.
pub due_listened : {x : Route} {roles : List ℕ} {arrivals : List Arrival} {tail : ℕ} {f : Follower} (tape : List Token) (n k : ℕ) → AwaitsTo x roles arrivals tail f tape → f.visitor.roles ≡ length x.readers → length f.visitor.arrivals ≡ n → n < length roles
    → k ≡ length (tuples_at f.visitor) → k < tail → Next x roles arrivals n f tape
due_listened {x} {f = f} tape n k w its many inside e l =
    let same = tuples_its x f.visitor its in
    due_next_to tape n w many inside (omega (arith, same, e, l))

-- There is no next message where all came.
pub none_left : (x : Route) (arrivals : List Arrival) (searched : List ℕ) (tape : List Token) (n : ℕ) → IsSearched x arrivals searched tape → n < length x.readers
    → (place : Option ℕ) → IfSome place (IsNextOn (slice_index x.readers n) (slice_index searched n) tape)
    → ((j channel : ℕ) → slice_get x.readers j ≡ Some channel → of_role j arrivals ≡ on_channel channel tape) → place ≡ None
none_left x arrivals searched tape n s inside None m whole = refl
none_left x arrivals searched tape n s inside (Some place) m whole =
    let reads = index_there x.readers n inside in
    let all : of_role n arrivals ≡ on_channel (slice_index x.readers n) tape = whole n (slice_index x.readers n) reads in
    let part = s.heard n (slice_index x.readers n) reads in
    let more : on_channel (slice_index x.readers n) (take (place + 1) tape) ≡ on_channel (slice_index x.readers n) tape ++ m.token ∷ [] =
    m.searched ∙ ap (λ l. l ++ m.token ∷ []) (sym part ∙ all) in
    let many : length (on_channel (slice_index x.readers n) (take (place + 1) tape)) ≡ length (on_channel (slice_index x.readers n) tape) + 1 = ap length more ∙ length-append (on_channel (slice_index x.readers n) tape) (m.token ∷ []) in
    absurd (too_many many (shorter (λ (t : Token). t.channel == slice_index x.readers n) (place + 1) tape))
  where
    too_many : {a b : ℕ} → a ≡ b + 1 → a ≤ b → ⊥
    too_many e l = omega (arith, e, l)
