-- What an arrival more keeps of a component that is followed.
use Rattle.std.proofs.Common.{ℕ, zero, suc, ◌+◌, ◌-◌, ◌≡◌, ◌≢◌, ◌≤◌, ◌<◌, refl, sym, ◌∙◌, ap, subst, get_or, inl, inr, arith, List, [], ◌∷◌, ◌++◌, length, take, map, set, Some, None, Option, slice_get, slice_index, option_map, option_and_then, length-append, length-set, le_trans, le-add_right}
use Rattle.std.proofs.lemmas.List.{map-append, take-append-le, length-map, length-take}
use Rattle.std.proofs.lemmas.Option.{slice_get_within}
use Rattle.cy_msg.specs.declared.token.Token.{Token}
use Rattle.cy_msg.specs.declared.token.Tuple.{Tuple}
use Rattle.cy_msg.specs.Tokens.{on_channel}
use Rattle.cy_msg.proofs.Lists.{place, get_append, get_snoc, get_in, take_next}
use Rattle.cy_fuse.specs.Fusion.{Arrival, added, fused}
use Rattle.cy_fuse.specs.Fetch.{fetch}
use Rattle.cy_fuse.specs.Laws.{FetchesFind}
use Rattle.cy_fuse.specs.Visitor.{VisitorView, visited, tuples_at}
use Rattle.cy_comp.specs.declared.call.Call.{Call}
use Rattle.wake_core.specs.declared.route.Route.{Route}
use Rattle.wake_core.specs.Plain.{of_role}
use Rattle.wake_core.proofs.Cited.{of_role_own, of_role_other, fused-append}
use Rattle.cy_fuse.specs.Visitor.{arrived}
use Rattle.cy_comp.specs.declared.plan.Plan.{Plan}
use Rattle.wake_core.specs.Run.{route_of}
use Rattle.cy_verify.specs.declared.follower.Follower.{Follower}
use Rattle.cy_verify.specs.private.Following.{IsSearched, IsLawful, IsNextOn, Hears, Listens, Stays, MayFollow}

-- Where a fetch from the beginning finds nothing, nothing is fused.
pub none_fused : FetchesFind → (v : VisitorView) (index : ℕ) → index ≡ 0 → visited index v ≡ None → 0 ≡ length (tuples_at v)
none_fused law v index at e' = by (tuples_at v) refl
  where
    some_none : {X : Type 0} {x : X} → Some x ≡ None → ⊥
    some_none e = cc

    by : (l : List Tuple) → tuples_at v ≡ l → 0 ≡ length (tuples_at v)
    by [] is = sym (ap length is)
    by (t ∷ l) is =
        let some : 1 ≤ length (tuples_at v) = rw is (omega arith) in
        let first : fetch 0 (length (tuples_at v)) v.queue v.overflow ≡ Some (length (tuples_at v)) = law.first (length (tuples_at v)) v.queue v.overflow some in
        absurd (nothing (slice_get (tuples_at v) (length (tuples_at v) - 1)) refl (get_in (tuples_at v) (length (tuples_at v) - 1) (omega (arith, some)))
        (ap (λ (o : Option ℕ). option_and_then (λ (n : ℕ). option_map {U = Tuple × ℕ × ℕ} (λ (t : Tuple). (t, n, length (tuples_at v))) (slice_get (tuples_at v) (n - 1))) o) (sym first) ∙ (ap (λ i. visited i v) (sym at) ∙ e')))
      where
        nothing : (o : Option Tuple) → slice_get (tuples_at v) (length (tuples_at v) - 1) ≡ o → slice_get (tuples_at v) (length (tuples_at v) - 1) ≢ None
            → option_map {U = Tuple × ℕ × ℕ} (λ (t : Tuple). (t, length (tuples_at v), length (tuples_at v))) (slice_get (tuples_at v) (length (tuples_at v) - 1)) ≡ None → ⊥
        nothing None is some e = some is
        nothing (Some t) is some e = some_none (ap (option_map {U = Tuple × ℕ × ℕ} (λ (t : Tuple). (t, length (tuples_at v), length (tuples_at v)))) (sym is) ∙ e)

index_same : (xs : List ℕ) (i n : ℕ) → i < length xs → slice_index (set xs i n) i ≡ n
index_same [] i n l = absurd (omega arith)
index_same (x ∷ xs) zero n l = refl
index_same (x ∷ xs) (suc i) n l = index_same xs i n (omega arith)

index_other : (xs : List ℕ) (i j n : ℕ) → j ≢ i → slice_index (set xs i n) j ≡ slice_index xs j
index_other [] i j n other = refl
index_other (x ∷ xs) zero zero n other = absurd (other refl)
index_other (x ∷ xs) zero (suc j) n other = refl
index_other (x ∷ xs) (suc i) zero n other = refl
index_other (x ∷ xs) (suc i) (suc j) n other = index_other xs i j n (λ e. other (ap suc e))

-- The next message of a reader's channel came to it.
pub hear_searched : (x : Route) (arrivals : List Arrival) (searched : List ℕ) (tape : List Token) (role channel at : ℕ) → slice_get x.readers role ≡ Some channel → role < 4
    → IsSearched x arrivals searched tape → (n : IsNextOn channel (slice_index searched role) tape at) → IsSearched x (arrivals ++ (role, n.token) ∷ []) (set searched role (at + 1)) tape
hear_searched x arrivals searched tape role channel at reads few h n = record {
  four = length-set searched role (at + 1) ∙ h.four;
  within = λ j. elim (place j role) [
    | inl e ↦ rw (e, index_same searched role (at + 1) inside) there
    | inr e ↦ rw (index_other searched role j (at + 1) e) (h.within j)
  ];
  heard = λ j ch is. elim (place j role) [
    | inl e ↦
        let same : channel ≡ ch = one (sym reads ∙ ap (slice_get x.readers) (sym e) ∙ is) in
        ap (λ k. of_role k (arrivals ++ (role, n.token) ∷ [])) e ∙ of_role_own role arrivals n.token ∙ ap (λ l. l ++ n.token ∷ []) (h.heard role channel reads) ∙ sym n.searched
        ∙ ap (λ k. on_channel channel (take k tape)) (sym (index_same searched role (at + 1) inside)) ∙ ap (λ k. on_channel channel (take (slice_index (set searched role (at + 1)) k) tape)) (sym e)
        ∙ ap (λ c. on_channel c (take (slice_index (set searched role (at + 1)) j) tape)) same
    | inr e ↦
        of_role_other role j arrivals n.token (λ q. e (sym q)) ∙ h.heard j ch is ∙ ap (λ k. on_channel ch (take k tape)) (sym (index_other searched role j (at + 1) e))
  ];
  roles = λ k a is. elim (get_snoc arrivals (role, n.token) k a is) [
    | inl b ↦ h.roles k a b
    | inr b ↦ let same : role ≡ a.0 = ap (λ (y : Arrival). y.0) b.1 in let lt = slice_get_within x.readers role channel reads in omega (arith, same, lt)
  ];
}
  where
    inside : role < length searched
    inside = omega (arith, few, h.four)

    there : at + 1 ≤ length tape
    there = let l = slice_get_within tape at n.token n.at in omega (arith, l)

    one : {a b : ℕ} → Some a ≡ Some b → a ≡ b
    one e = cc

pub get_front : {X : Type 0} (xs ys : List X) (k : ℕ) (x : X) → k < length xs → slice_get (xs ++ ys) k ≡ Some x → slice_get xs k ≡ Some x
get_front [] ys k x l e = absurd (omega arith)
get_front (z ∷ xs) ys zero x l e = e
get_front (z ∷ xs) ys (suc k) x l e = get_front xs ys k x (omega arith) e

-- What came more leaves the calls lawful.
pub hear_lawful : (x : Route) (arrivals : List Arrival) (calls : List Call) (tape : List Token) (a : Arrival) → IsLawful x arrivals calls tape → IsLawful x (arrivals ++ a ∷ []) calls tape
hear_lawful x arrivals calls tape a h = record {
  lawful = record {
    positions = h.lawful.positions;
    tails_rise = h.lawful.tails_rise;
    outputs = h.lawful.outputs;
    no_call_after_last = h.lawful.no_call_after_last;
    tails_fused = λ n y e. rw (fused-append (length x.readers) arrivals a, length-append) (le_trans (h.lawful.tails_fused n y e) (le-add_right (length (fused arrivals (length x.readers))) (length (added (length x.readers) arrivals a))));
    tuples = λ n y e. rw (fused-append (length x.readers) arrivals a) (get_append (fused arrivals (length x.readers)) (added (length x.readers) arrivals a) (y.position - 1) y.tuple (h.lawful.tuples n y e));
  };
  before = λ n call t i out on k tuple l item j m of.
      h.before n call t i out on k tuple l
      (get_front (fused arrivals (length x.readers)) (added (length x.readers) arrivals a) k tuple (below l (h.lawful.tails_fused n call out.made)) (ap (λ b. slice_get b k) (sym (fused-append (length x.readers) arrivals a)) ∙ item))
      j m of;
  own = λ n y made.
      rw (fused-append (length x.readers) arrivals a)
      (ap (λ b. slice_get b (y.position - 1)) (take-append-le y.tail (fused arrivals (length x.readers)) (added (length x.readers) arrivals a) (h.lawful.tails_fused n y made)) ∙ h.own n y made);
}
  where
    below : {e n m : ℕ} → e < n → n ≤ m → e < m
    below p q = omega arith

pub get_there : {X : Type 0} (xs : List X) (n : ℕ) (d x : X) → slice_get xs n ≡ Some x → get_or xs n d ≡ x
get_there [] n d x e = cc
get_there (y ∷ xs) zero d x e = cc
get_there (y ∷ xs) (suc n) d x e = get_there xs n d x e

pub index_there : (xs : List ℕ) (n : ℕ) → n < length xs → slice_get xs n ≡ Some (slice_index xs n)
index_there [] n l = absurd (omega arith)
index_there (x ∷ xs) zero l = refl
index_there (x ∷ xs) (suc n) l = index_there xs n (omega arith)

-- The next message of its channel came to a reader.
pub heard_next : (p : Plan) (role at : ℕ) (tape : List Token) (f : Follower) (v : VisitorView) (d : Token) → (role < length p.readers) → length p.readers ≤ 4 → IsSearched (route_of p) f.visitor.arrivals f.searched tape
    → IsNextOn (slice_index p.readers role) (slice_index f.searched role) tape at → v ≡ arrived f.visitor role (get_or tape at d) → Hears (route_of p) role tape f (record f { visitor = v; searched = set f.searched role (at + 1) })
heard_next p role at tape f v d known few h n came = record {
  token = get_or tape at d;
  known = known;
  came = ap (λ (u : VisitorView). u.arrivals) came;
  same = refl;
  outputs = refl;
  ended = refl;
  searched = rw (ap (λ (u : VisitorView). u.arrivals) came) (subst (λ (m : Token). IsSearched (route_of p) (f.visitor.arrivals ++ (role, m) ∷ []) (set f.searched role (at + 1)) tape) (sym (get_there tape at d n.token n.at))
      (hear_searched (route_of p) f.visitor.arrivals f.searched tape role (slice_index p.readers role) at (index_there p.readers role known) (omega (arith, known, few)) h n));
}

-- What stays through two steps stays.
pub stays_then : {f g h : Follower} → Stays f g → Stays g h → Stays f h
stays_then a b = record {
  kind = b.kind ∙ a.kind;
  roles = b.roles ∙ a.roles;
  overflow = b.overflow ∙ a.overflow;
  queue = b.queue ∙ a.queue;
  arrivals = b.arrivals ∙ a.arrivals;
  calls = b.calls ∙ a.calls;
}

pub stays_itself : (f : Follower) → Stays f f
stays_itself f = record { kind = refl; roles = refl; overflow = refl; queue = refl; arrivals = refl; calls = refl }

-- What may be followed may be followed further.
pub may_further : {x : Route} {f g : Follower} {tape : List Token} → MayFollow x f tape → Stays f g → MayFollow x g tape
may_further m s = record {
  most = m.most;
  its = record {
    kind = s.kind ∙ m.its.kind;
    roles = s.roles ∙ m.its.roles;
    overflow = s.overflow ∙ m.its.overflow;
    queue = s.queue ∙ m.its.queue;
    calls = rw s.calls m.its.calls;
  };
  few = m.few;
  limited = m.limited;
  needed = m.needed;
  some_reader = m.some_reader;
  few_readers = m.few_readers;
  buffered = m.buffered;
}

-- The first so many of what is told, and the next one.
take_told : (xs ys : List ℕ) (n y : ℕ) → xs ≡ take n ys → slice_get ys n ≡ Some y → xs ++ y ∷ [] ≡ take (n + 1) ys
take_told xs ys n y e at = ap (λ l. l ++ y ∷ []) e ∙ sym (take_next ys n y at)

-- An arrival more that is told, where this many came.
pub hears_listens : {x : Route} {roles : List ℕ} {tape : List Token} {f g h : Follower} (n role : ℕ) → length g.visitor.arrivals ≡ n → slice_get roles n ≡ Some role → Listens x roles tape f g → Hears x role tape g h → Listens x roles tape f h
hears_listens {x} {roles} {tape} {f} {g} {h} n role many at l m = record {
  same = m.same ∙ l.same;
  outputs = m.outputs ∙ l.outputs;
  ended = m.ended ∙ l.ended;
  searched = m.searched;
  lawful = rw (m.came, m.same) (hear_lawful x g.visitor.arrivals g.routine.calls tape (role, m.token) l.lawful);
  told =
      ap (map (λ (a : Arrival). a.0)) m.came ∙ map-append (λ (a : Arrival). a.0) g.visitor.arrivals ((role, m.token) ∷ [])
      ∙ take_told (map (λ (a : Arrival). a.0) g.visitor.arrivals) roles (length g.visitor.arrivals) role l.told (ap (slice_get roles) many ∙ at)
      ∙ ap (λ k. take k roles) (sym (ap length m.came ∙ length-append g.visitor.arrivals ((role, m.token) ∷ [])));
}

pub hears_more : {x : Route} {role : ℕ} {tape : List Token} {g h : Follower} (n : ℕ) → length g.visitor.arrivals ≡ n → Hears x role tape g h → length h.visitor.arrivals ≡ n + 1
hears_more {x} {role} {tape} {g} {h} n many m = ap length m.came ∙ length-append g.visitor.arrivals ((role, m.token) ∷ []) ∙ ap (λ k. k + 1) many

-- So many arrivals came, as they are told.
pub record Listening (x : Route) (roles : List ℕ) (tape : List Token) (f g : Follower) (n : ℕ) : Type 0 where
  pub stays : Stays f g
  pub listens : Listens x roles tape f g
  pub many : length g.visitor.arrivals ≡ n

pub listening_more : {x : Route} {roles : List ℕ} {tape : List Token} {f g h : Follower} {n : ℕ} (role : ℕ) → slice_get roles n ≡ Some role → Listening x roles tape f g n → Stays g h → Hears x role tape g h → Listening x roles tape f h (n + 1)
listening_more {n = n} role at l s m = record {
  stays = stays_then l.stays s;
  listens = hears_listens n role l.many at l.listens m;
  many = hears_more n l.many m;
}

-- No more came than is told.
pub told_few : (arrivals : List Arrival) (roles : List ℕ) → map (λ (a : Arrival). a.0) arrivals ≡ take (length arrivals) roles → length arrivals ≤ length roles
told_few arrivals roles e =
    let same : length arrivals ≡ length (take (length arrivals) roles) = sym (length-map arrivals (λ (a : Arrival). a.0)) ∙ ap length e in
    omega (arith, same, length-take (length arrivals) roles)

-- What a look-up finds.
pub there_is : {X : Type 0} (xs : List X) (n : ℕ) (x : X) → n < length xs → x ≡ get_or xs n x → slice_get xs n ≡ Some x
there_is [] n x l e = absurd (omega arith)
there_is (y ∷ xs) zero x l e = ap (λ z. Some z) (sym e)
there_is (y ∷ xs) (suc n) x l e = there_is xs n x (omega arith) e

-- All that the tape has for the first so many readers came.
abbrev pub AllCame : (readers : List ℕ) → List Arrival → List Token → ℕ → Type 0
AllCame readers arrivals tape n = (j channel : ℕ) → j < n → slice_get readers j ≡ Some channel → of_role j arrivals ≡ on_channel channel tape

pub none_more : (x : Route) (arrivals : List Arrival) (searched : List ℕ) (tape : List Token) (n : ℕ) → IsSearched x arrivals searched tape → n < length x.readers → on_channel (slice_index x.readers n) tape ≡ on_channel (slice_index x.readers n) (take (slice_index searched n) tape)
    → AllCame x.readers arrivals tape n → AllCame x.readers arrivals tape (n + 1)
none_more x arrivals searched tape n h inside none all j channel l is = elim (place j n) [
  | inl e ↦
      let same : slice_index x.readers n ≡ channel = one (sym (index_there x.readers n inside) ∙ ap (slice_get x.readers) (sym e) ∙ is) in
      ap (λ k. of_role k arrivals) e ∙ h.heard n (slice_index x.readers n) (index_there x.readers n inside) ∙ sym none ∙ ap (λ c. on_channel c tape) same
  | inr e ↦ all j channel (omega (arith, l, e)) is
]
  where
    one : {a b : ℕ} → Some a ≡ Some b → a ≡ b
    one e = cc
