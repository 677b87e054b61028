-- Who writes a channel, and what is planned on it.
use Rattle.std.proofs.Common.{ℕ, zero, suc, ◌+◌, ◌-◌, ◌≡◌, ◌≢◌, ◌⊎◌, ◌≤◌, ◌<◌, refl, sym, ◌∙◌, ap, inl, inr, arith, List, [], ◌∷◌, length, Some, None, Option, slice_get, slice_index, cond}
use Rattle.std.proofs.lemmas.Bool.Decides.{eqb_tells}
use Rattle.std.proofs.Math.ListN.{get_or-eq_default}
use Rattle.std.proofs.lemmas.Option.{slice_get-get_or}
use Rattle.wake_core.specs.Run.{Route, writes_from}
use Rattle.wake_core.specs.Planned.{planned_count, source_of, source_after, first_reader}
use Rattle.wake_core.specs.Sound.{IsWired}
use Rattle.wake_core.specs.Plain.{reads}

writes_none : (routes : List Route) (first channel : ℕ) → writes_from first routes channel ≡ None → (c : ℕ) (x : Route) → slice_get routes c ≡ Some x → x.out ≢ channel
writes_none [] first channel e c x at = λ is. cc
writes_none (y ∷ routes) first channel e c x at = λ is. elim (eqb_tells y.out channel) [
  | inl h ↦ some_none (sym (ap (λ b. cond b (Some first) (writes_from (first + 1) routes channel)) h.0) ∙ e)
  | inr h ↦ by c at h.1 (sym (ap (λ b. cond b (Some first) (writes_from (first + 1) routes channel)) h.0) ∙ e) (λ n later at. writes_none routes (first + 1) channel later n x at is) is
]
  where
    some_none : Some first ≡ None → ⊥
    some_none e = cc

    by : (c : ℕ) → slice_get (y ∷ routes) c ≡ Some x → y.out ≢ channel → writes_from (first + 1) routes channel ≡ None
        → ((n : ℕ) → writes_from (first + 1) routes channel ≡ None → slice_get routes n ≡ Some x → ⊥) → x.out ≡ channel → ⊥
    by zero at other later rest is = let same : y ≡ x = cc in other (ap (λ (z : Route). z.out) same ∙ is)
    by (suc c) at other later rest is = rest c later at

-- On a channel that no component writes no component puts out.
pub unwritten_out : (routes : List Route) (channel : ℕ) → writes_from 0 routes channel ≡ None → (c : ℕ) (x : Route) → slice_get routes c ≡ Some x → x.out ≢ channel
unwritten_out routes channel e c x at = writes_none routes 0 channel e c x at

pub record IsWriter (routes : List Route) (first channel c : ℕ) : Type 0 where
  pub from : first ≤ c
  pub route : Route
  pub at : slice_get routes (c - first) ≡ Some route
  pub writes : route.out ≡ channel

pub writes_some : (routes : List Route) (first channel c : ℕ) → writes_from first routes channel ≡ Some c → IsWriter routes first channel c
writes_some [] first channel c e = cc
writes_some (y ∷ routes) first channel c e = elim (eqb_tells y.out channel) [
  | inl h ↦ here h.1 (sym (ap (λ b. cond b (Some first) (writes_from (first + 1) routes channel)) h.0) ∙ e)
  | inr h ↦ later (writes_some routes (first + 1) channel c (sym (ap (λ b. cond b (Some first) (writes_from (first + 1) routes channel)) h.0) ∙ e))
]
  where
    here : y.out ≡ channel → Some first ≡ Some c → IsWriter (y ∷ routes) first channel c
    here is e =
        let same : first ≡ c = cc in
        let none : c - first ≡ 0 = omega arith in
        record { from = omega arith; route = y; at = ap (slice_get (y ∷ routes)) none; writes = is }

    later : IsWriter routes (first + 1) channel c → IsWriter (y ∷ routes) first channel c
    later w =
        let more : c - first ≡ suc (c - (first + 1)) = omega (arith, w.from) in
        record { from = omega (arith, w.from); route = w.route; at = ap (slice_get (y ∷ routes)) more ∙ w.at; writes = w.writes }

-- A component's channel is written by it.
pub writes_own : {routes : List Route} {counts : List ℕ} → IsWired routes counts → (c : ℕ) (x : Route) → slice_get routes c ≡ Some x → writes_from 0 routes x.out ≡ Some c
writes_own {routes} wired c x at = by (writes_from 0 routes x.out) refl
  where
    by : (o : Option ℕ) → writes_from 0 routes x.out ≡ o → o ≡ Some c
    by None e = absurd (unwritten_out routes x.out e c x at refl)
    by (Some d) e =
        let w = writes_some routes 0 x.out d e in
        let whole : d - 0 ≡ d = omega arith in
        ap (λ n. Some n) (wired.own_outs d c w.route x (ap (slice_get routes) (sym whole) ∙ w.at) at w.writes)

pub source_root : (routes : List Route) (channel : ℕ) → writes_from 0 routes channel ≡ None → source_of routes channel ≡ channel
source_root routes channel e = rw (e, source_of) refl

pub source_after_root : (routes : List Route) (n channel : ℕ) → writes_from 0 routes channel ≡ None → source_after routes n channel ≡ channel
source_after_root routes zero channel e = refl
source_after_root routes (suc n) channel e = ap (source_after routes n) (source_root routes channel e) ∙ source_after_root routes n channel e

-- On a channel that no component writes as many are planned as are played.
pub planned_root : (routes : List Route) (counts : List ℕ) (channel : ℕ) → writes_from 0 routes channel ≡ None → planned_count routes counts channel ≡ slice_index counts channel
unfolding planned_count
planned_root routes counts channel e = ap (slice_index counts) (source_after_root routes (length routes) channel e)

-- A channel on which something is played is known.
pub counted_known : (counts : List ℕ) (channel n : ℕ) → n + 1 ≤ slice_index counts channel → channel < length counts
counted_known counts channel n l = elim (le_or counts channel) [ inl h ↦ h | inr h ↦ let none = get_or-eq_default counts 0 h in absurd (omega (arith, none)) ]
  where
    le_or : (counts : List ℕ) (channel : ℕ) → (channel < length counts) ⊎ (length counts ≤ channel)
    le_or counts channel = either channel (length counts)
      where
        either : (m n : ℕ) → (m < n) ⊎ (n ≤ m)
        either m zero = inr (omega arith)
        either zero (suc n) = inl (omega arith)
        either (suc m) (suc n) = elim (either m n) [ inl h ↦ inl (omega arith) | inr h ↦ inr (omega arith) ]

-- A component's first reader reads a channel.
pub first_reads : (routes : List Route) (c : ℕ) (x : Route) → slice_get routes c ≡ Some x → 1 ≤ length x.readers → reads routes c 0 ≡ Some (first_reader x)
first_reads routes c x at some = rw at (slice_get-get_or x.readers 0 0 some)
