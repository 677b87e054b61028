-- The files of components, one after another.
use Rattle.std.proofs.Common.{ℕ, ◌+◌, ◌≡◌, ◌≤◌, ◌<◌, List, [], ◌∷◌, ◌++◌, length, drop, Option, Some, None, IfSome, Result, Ok, Err, refl, sym, ap, subst, ◌∙◌, append_assoc, append-nil, Vec, Global, get_or}
use Rattle.std.proofs.lemmas.List.{drop_all, drop_more}
use Rattle.std.proofs.lemmas.Option.{slice_get-get_or}
use Rattle.cy_store.specs.Files.{Files}
use Rattle.cy_store.specs.Reads.{Reads, Accepts, Refuses, Absent, ◌>>=◌}
use Rattle.cy_store.specs.Store.{StoreView}
use Rattle.cy_dag.specs.declared.config.Config.{Config}
use Rattle.cy_dag.specs.declared.dag.DagComponent.{DagComponent}
use Rattle.cy_setup.specs.declared.error.Refusal.{Refusal}
use Rattle.cy_setup.specs.declared.error.SetupError.{SetupError}
use Rattle.cy_setup.specs.declared.error.SetupError.TheVariants.{Memory}
use Rattle.cy_setup.specs.Configuration.{config_in, configs_from, configs_in, IsAskedFor, IsAskedOf}
use Rattle.cy_setup.specs.Comes.{ComesTo}
use Rattle.cy_setup.proofs.Coming.{Stands, told_map, then, comes_err, comes_ok, comes_memory, comes_same}

-- what is left comes behind these
abbrev pub behind : List Config → Reads Refusal (List Config) → Reads Refusal (List Config)
behind done more = more >>= λ configs. Accepts (done ++ configs)

-- the files of so many components were read and are these
pub record AreRead (components : List DagComponent) (n : ℕ) (done : List Config) (old new : StoreView) : Type 0 where
  pub stands : Stands old new
  pub read : IfSome old.files (λ m. configs_in components m ≡ behind done (configs_from n (drop n components) m))

behind_none : (r : Reads Refusal (List Config)) → r ≡ behind [] r
behind_none (Accepts xs) = refl
behind_none (Refuses e) = refl
behind_none (Absent name) = refl

behind_more : (done : List Config) (x : Config) (r : Reads Refusal (List Config)) → behind done (r >>= λ xs. Accepts (x ∷ xs)) ≡ behind (done ++ x ∷ []) r
behind_more done x (Accepts xs) = ap Accepts (sym (append_assoc done (x ∷ []) xs))
behind_more done x (Refuses e) = refl
behind_more done x (Absent name) = refl

always : {P : Files → Type 0} (files : Option Files) → ((m : Files) → P m) → IfSome files P
always None h = tt
always (Some m) h = h m

pub none_read : (components : List DagComponent) (view : StoreView) → AreRead components 0 [] view view
none_read components view = record {
  stands = record { same = refl; counts = record { faults = refl; misses = refl } };
  read = always view.files (λ m. behind_none (configs_from 0 components m));
}

-- from one component on
abbrev pub rest_of : ℕ → DagComponent → List DagComponent → List Config → Files → Reads Refusal (List Config)
rest_of n c rest done m = behind done (configs_from n (c ∷ rest) m)

pub one_more_read : (components : List DagComponent) (n : ℕ) (c : DagComponent) (done : List Config) (config : Config) (P : List ℕ → Type 0) (old mid new : StoreView) → AreRead components n done old mid → drop n components ≡ c ∷ drop (n + 1) components
    → ComesTo (λ x. x) (config_in n c) P mid new (Ok config) → AreRead components (n + 1) (done ++ config ∷ []) old new
one_more_read components n c done config P old mid new so_far at came = record {
  stands = record {
    same = came.same ∙ so_far.stands.same;
    counts = record { faults = came.accepted.0.faults ∙ so_far.stands.counts.faults; misses = came.accepted.0.misses ∙ so_far.stands.counts.misses };
  };
  read = both old.files so_far.read (subst (λ files. IfSome files (λ m. config_in n c m ≡ Accepts config)) so_far.stands.same came.accepted.1);
}
  where
    step : (m : Files) → configs_in components m ≡ behind done (configs_from n (drop n components) m) → config_in n c m ≡ Accepts config
        → configs_in components m ≡ behind (done ++ config ∷ []) (configs_from (n + 1) (drop (n + 1) components) m)
    step m was is =
        was ∙ ap (λ (cs : List DagComponent). behind done (configs_from n cs m)) at ∙ ap (λ (r : Reads Refusal Config). behind done (r >>= λ x. configs_from (n + 1) (drop (n + 1) components) m >>= λ xs. Accepts (x ∷ xs))) is
        ∙ behind_more done config (configs_from (n + 1) (drop (n + 1) components) m)

    both : (files : Option Files) → IfSome files (λ m. configs_in components m ≡ behind done (configs_from n (drop n components) m)) → IfSome files (λ m. config_in n c m ≡ Accepts config)
        → IfSome files (λ m. configs_in components m ≡ behind (done ++ config ∷ []) (configs_from (n + 1) (drop (n + 1) components) m))
    both None a b = tt
    both (Some m) a b = step m a b

drop_at : (components : List DagComponent) (n : ℕ) (c : DagComponent) → n < length components → c ≡ get_or components n c → drop n components ≡ c ∷ drop (n + 1) components
drop_at components n c within is = drop_more components n c within ∙ ap (λ (d : DagComponent). d ∷ drop (n + 1) components) (sym is)

-- one component's file more
pub config_read : (components : List DagComponent) (n : ℕ) (c : DagComponent) (done : List Config) (config : Config) (P : List ℕ → Type 0) (old mid new : StoreView) → AreRead components n done old mid → n < length components → c ≡ get_or components n c
    → ComesTo (λ x. x) (config_in n c) P mid new (Ok config) → AreRead components (n + 1) (done ++ config ∷ []) old new
config_read components n c done config P old mid new so_far within at came = one_more_read components n c done config P old mid new so_far (drop_at components n c within at) came

asked_for : (components : List DagComponent) (n : ℕ) (c : DagComponent) (files told : Option Files) (file : List ℕ) → n < length components → c ≡ get_or components n c → files ≡ told → IsAskedFor n c files file → IsAskedOf components told file
asked_for components n c files told file within at same asked = record {
  number = n;
  component = c;
  there = slice_get-get_or components n c within ∙ ap Some (sym at);
  asked = subst (λ f. IsAskedFor n c f file) same asked;
}

-- it is in the way
pub config_stops : (components : List DagComponent) (n : ℕ) (c : DagComponent) (done : List Config) (e : SetupError) (old mid new : StoreView) → AreRead components n done old mid → n < length components → c ≡ get_or components n c
    → (let r : Result Config SetupError = Err e in ComesTo (λ x. x) (config_in n c) (IsAskedFor n c mid.files) mid new r)
    → (let r : Result (Vec Config Global) SetupError = Err e in ComesTo (λ v. v.items) (configs_in components) (IsAskedOf components old.files) old new r)
config_stops components n c done e old mid new so_far within at came =
    let rest : Config → Files → Reads Refusal (List Config) = λ x m. configs_from (n + 1) (drop (n + 1) components) m >>= λ xs. Accepts (x ∷ xs) in
    let first = comes_err (λ (v : Vec Config Global). v.items) (config_in n c) rest (IsAskedFor n c mid.files) mid new e (λ file asked. asked) came in
    let then_done = comes_err (λ (v : Vec Config Global). v.items) (then (config_in n c) rest) (λ xs m. Accepts (done ++ xs)) (IsAskedOf components old.files) mid new e (λ file asked. asked_for components n c mid.files old.files file within at so_far.stands.same asked) first in
    comes_same (λ (v : Vec Config Global). v.items) (configs_in components) (then (then (config_in n c) rest) (λ xs m. Accepts (done ++ xs))) (IsAskedOf components old.files) (IsAskedOf components old.files) old mid new _ so_far.stands
    (told_map old.files (λ m was. was ∙ ap (λ (cs : List DagComponent). behind done (configs_from n cs m)) (drop_at components n c within at)) so_far.read) (λ file asked. asked) then_done

-- no room for what it says
pub config_left : (components : List DagComponent) (n : ℕ) (c : DagComponent) (config : Config) (done : List Config) (P : List ℕ → Type 0) (old mid new : StoreView) → AreRead components n done old mid → ComesTo (λ x. x) (config_in n c) P mid new (Ok config)
    → (let r : Result (Vec Config Global) SetupError = Err Memory in ComesTo (λ v. v.items) (configs_in components) (IsAskedOf components old.files) old new r)
config_left components n c config done P old mid new so_far came = comes_memory (λ (v : Vec Config Global). v.items) (configs_in components) (IsAskedOf components old.files) old new record {
  same = came.same ∙ so_far.stands.same;
  counts = record { faults = came.accepted.0.faults ∙ so_far.stands.counts.faults; misses = came.accepted.0.misses ∙ so_far.stands.counts.misses };
}

-- all were read
pub configs_read : (components : List DagComponent) (n : ℕ) (done : Vec Config Global) (old new : StoreView) → length components ≤ n → AreRead components n done.items old new
    → ComesTo (λ v. v.items) (configs_in components) (IsAskedOf components old.files) old new (Ok done)
configs_read components n done old new end all = comes_ok (λ (v : Vec Config Global). v.items) (configs_in components) (IsAskedOf components old.files) old new done all.stands
    (told_map old.files (λ m was. was ∙ ap (λ (cs : List DagComponent). behind done.items (configs_from n cs m)) (drop_all n components end) ∙ ap Accepts (append-nil done.items)) all.read)
