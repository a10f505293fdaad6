-- The expression of a view, by its buffer.
use Rattle.std.proofs.Common.{◌≡◌, ℕ, Bool, true, false, List, [], ◌∷◌, Some, None, Option, ap, ◌∙◌}
use Rattle.std.proofs.lemmas.Bool.{cond-true, cond-false}
use Rattle.dump.specs.declared.kinds.ViewKind.{ViewKind}
use Rattle.dump.specs.Heaps.{buffer, view, below, Heap}
use Rattle.script.specs.Syntax.{Expr}
use Rattle.planner.specs.Visits.{edges_of, object_at}
use Rattle.planner.specs.Names.{ViewContent, buffer_in, inlines, backing, slot}
use Rattle.planner.specs.Builds.{on_named, on_inlined, view_by, view_expr, kind_expr, object_expr}

-- what a view is
abbrev pub content : ViewKind → ℕ → ℕ → Bool → ViewContent
content k offset n tracking = record { kind = k; offset = offset; count = n; tracking = tracking }

module _ (h : Heap) (order : List ℕ) (done : List Expr) (x b : ℕ) (k : ViewKind) (offset n : ℕ) (tracking : Bool) (viewed : (object_at h x).kind ≡ view k offset n tracking) (on : (object_at h x).parts ≡ below b ∷ []) where
  pub view_expr_lem : (bytes : List ℕ) (maximum : Option ℕ) → (object_at h b).kind ≡ buffer bytes maximum → object_expr h order done x ≡ view_by h order done x (content k offset n tracking) b (Some (record { bytes = bytes; maximum = maximum }))
  view_expr_lem bytes maximum e =
      ap (λ z. kind_expr h order done x (slot h order x) z (object_at h x).parts) viewed
      ∙ ap (λ ps. view_expr h order done x (content k offset n tracking) (edges_of ps)) on
      ∙ ap (λ z. view_by h order done x (content k offset n tracking) b (buffer_in z)) e

  -- on a fixed buffer that inlines, and on one that does not
  pub inlined_expr : (bytes : List ℕ) → (object_at h b).kind ≡ buffer bytes None → inlines h order b ≡ true → object_expr h order done x ≡ on_inlined h order done x (content k offset n tracking) b bytes
  inlined_expr bytes e i = view_expr_lem bytes None e ∙ cond-true (inlines h order b) (on_inlined h order done x (content k offset n tracking) b bytes) (on_named h order x (content k offset n tracking) b bytes (backing h order b)) i

  pub named_expr : (bytes : List ℕ) (w : Option ℕ) → (object_at h b).kind ≡ buffer bytes None → inlines h order b ≡ false → backing h order b ≡ w → object_expr h order done x ≡ on_named h order x (content k offset n tracking) b bytes w
  named_expr bytes w e i d =
      view_expr_lem bytes None e
      ∙ cond-false (inlines h order b) (on_inlined h order done x (content k offset n tracking) b bytes) (on_named h order x (content k offset n tracking) b bytes (backing h order b)) i
      ∙ ap (on_named h order x (content k offset n tracking) b bytes) d
