-- The objects of a bounded heap: each is formed, and no buffer is longer than a dump has room for. An object of any number: past the last stands nobody, a plain object without parts.
use Rattle.std.proofs.Common.{◌≡◌, ℕ, ◌<◌, ◌≤◌, List, length, get_or, Option, sym, subst, ⊎_elim}
use Rattle.std.specs.List.{AllByRecursion as All}
use Rattle.std.proofs.ByRecursion.{All-get_or}
use Rattle.std.proofs.lemmas.List.{get_or_past}
use Rattle.std.proofs.lemmas.Bool.{cases_lt}
use Rattle.dump.specs.Heaps.{buffer, nobody, Heap}
use Rattle.formed.specs.Formed.{ObjectFormed}
use Rattle.planner.specs.Visits.{object_at}
use Rattle.effects.specs.Bounded.{KindShort, ObjectShort, Bounded}

-- what holds of each row of a list holds at every place, if it holds past the last
pub all_rows : {X : Type 0} (P : X → Type 0) (xs : List X) (i : ℕ) (d : X) → P d → All P xs → P (get_or xs i d)
all_rows P xs i d past a =
    ⊎_elim (λ (l : i < length xs). All-get_or P xs i d l a) (λ (l : length xs ≤ i). subst P (sym (get_or_past xs i d l)) past) (cases_lt i (length xs))

module _ (h : Heap) (f : Bounded h) where
  pub formed_at : (o : ℕ) → ObjectFormed h (object_at h o)
  formed_at o = all_rows (ObjectFormed h) h.objects o nobody (tt, (tt, tt)) f.formed.objects

  pub buffer_short : (b : ℕ) (bytes : List ℕ) (maximum : Option ℕ) → (object_at h b).kind ≡ buffer bytes maximum → length bytes ≤ 1048576
  buffer_short b bytes maximum e = subst KindShort e (all_rows ObjectShort h.objects b nobody tt f.short)
