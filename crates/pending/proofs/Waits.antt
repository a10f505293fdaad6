-- A follow-up leaves the list of those to come: the others wait as before.
use Rattle.std.proofs.Common.{◌≡◌, ℕ, true, false, List, ◌∷◌, ◌++◌, sym, ap, ◌∙◌}
use Rattle.std.proofs.lemmas.Bool.{false≢true}
use Rattle.planner.specs.Lates.{Task, Late}
use Rattle.rebuilds.specs.Pending.{Waits}
use Rattle.pending.proofs.Lists.{in_without}

module _ (o : ℕ) (K L : List Late) (l : Late) (t : Task) where
  -- another task
  pub waits_other : (l.task ≡ t → ⊥) → Waits o (K ++ (l ∷ L)) t → Waits o (K ++ L) t
  waits_other n u = in_without K L (record { target = o; task = t; ordered = false }) l (λ e. n (sym (ap (λ x. x.task) e))) u

  -- behind an ordered one
  pub waits_ordered : l.ordered ≡ true → Waits o (K ++ (l ∷ L)) t → Waits o (K ++ L) t
  waits_ordered r u = in_without K L (record { target = o; task = t; ordered = false }) l (λ e. false≢true (ap (λ x. x.ordered) e ∙ r)) u
