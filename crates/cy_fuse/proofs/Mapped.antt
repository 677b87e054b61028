-- A buffer of what its items stand for.
use Rattle.std.proofs.Common.{ℕ, ◌-◌, ◌≡◌, true, false, if◌then◌else◌, List, [], ◌∷◌, ◌++◌, length, map, drop, Option, Some, None, refl, sym, ap, ◌∙◌, nat_lt, ◌||◌}
use Rattle.std.specs.Prelude.{option_map, option_and_then, slice_get}
use Rattle.std.proofs.lemmas.List.{map_push, drop-map, length-map}
use Rattle.std.proofs.lemmas.Option.{slice_get-map}
use Rattle.circular_buffer.specs.Buffer.{keep_last}
use Rattle.cy_fuse.specs.declared.overflow.Overflow.{Overflow}
use Rattle.cy_fuse.specs.Fetch.{fetch}
use Rattle.cy_fuse.specs.Cache.{Cache, filled, item_at, oldest_of, fetched}
use Rattle.cy_fuse.specs.private.Joining.{mapped, fills}

module _ {X Y : Type 0} (f : X → Y) where
  kept_last : (n : ℕ) (l : List X) → map f (keep_last n l) ≡ keep_last n (map f l)
  kept_last n l = sym (drop-map f (length l - n) l) ∙ ap (λ m. drop (m - n) (map f l)) (sym (length-map l f))

  pub mapped_filled : (b : Cache X) (x : X) → mapped f (filled b x) ≡ filled (mapped f b) (f x)
  mapped_filled b x =
      ap (λ k. filled_with k) (kept_last b.size (b.kept ++ x ∷ []) ∙ ap (keep_last b.size) (map_push f b.kept x))
    where
      filled_with : List Y → Cache Y
      filled_with k = record (filled (mapped f b) (f x)) { kept = k }

  pub mapped_fills : (b : Cache X) (o : Option X) → mapped f (fills b o) ≡ fills (mapped f b) (option_map f o)
  mapped_fills b None = refl
  mapped_fills b (Some x) = mapped_filled b x

  pub mapped_item : (b : Cache X) (n : ℕ) → item_at (mapped f b) n ≡ option_map f (item_at b n)
  mapped_item b n =
      elim (nat_lt n (oldest_of b) || nat_lt b.tail n) as (λ t. (if t then None else slice_get (map f b.kept) (n - oldest_of b))
      ≡ option_map f (if t then None else slice_get b.kept (n - oldest_of b))) [
        | true ↦ refl
        | false ↦ slice_get-map f b.kept (n - oldest_of b)
      ]

  numbered : (n : ℕ) (o : Option X) → option_map {U = Y × ℕ} (λ y. (y, n)) (option_map f o) ≡ option_map {U = Y × ℕ} (λ x. (f x.0, x.1)) (option_map {U = X × ℕ} (λ x. (x, n)) o)
  numbered n None = refl
  numbered n (Some x) = refl

  pub mapped_fetched : (index : ℕ) (b : Cache X) (o : Overflow) → fetched index (mapped f b) o ≡ option_map {U = Y × ℕ} (λ x. (f x.0, x.1)) (fetched index b o)
  mapped_fetched index b o = by (fetch index b.tail b.size o)
    where
      by : (at : Option ℕ) → option_and_then (λ n. option_map {U = Y × ℕ} (λ y. (y, n)) (item_at (mapped f b) n)) at
          ≡ option_map {U = Y × ℕ} (λ x. (f x.0, x.1)) (option_and_then (λ n. option_map {U = X × ℕ} (λ x. (x, n)) (item_at b n)) at)
      by None = refl
      by (Some n) = ap (option_map (λ y. (y, n))) (mapped_item b n) ∙ numbered n (item_at b n)
