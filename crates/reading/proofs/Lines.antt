-- The tokens of a statement as trees.
use Rattle.std.proofs.Common.{◌≡◌, ℕ, Bool, true, false, List, [], ◌∷◌, ◌++◌, Some, codes, Option, sym, ap, ◌∙◌, append-nil}
use Rattle.dump.specs.declared.kinds.ViewKind.{ViewKind}
use Rattle.dump.specs.Heaps.{Key, index, name}
use Rattle.dump.specs.Kinds.{width}
use Rattle.script.specs.Items as items
use Rattle.script.specs.Items.{Item, blanks, line_end}
use Rattle.script.specs.Syntax.{Expr, const, assign, put, add, fill, last}
use Rattle.script.specs.Texts.{view_name, listing, list_of, expr_items, stmt_items}
use Rattle.evaluator.specs.Options.{and_then}
use Rattle.evaluator.specs.Trees.{Tree, node, Trees, nil, cons, snoc, held, Growing, growing, grow, grown, trees}
use Rattle.effects.specs.Tokens.{items_tokens}
use Rattle.reading.specs.Trees.{append_t, one, comma, word_tree, name_tree, new_trees, member, list_of_trees, access_trees, expr_trees}
use Rattle.reading.specs.Statements.{semicolon, equals, const_trees, assign_trees, put_trees, add_trees, fill_trees, last_trees}
use Rattle.reading.proofs.Grown.{push, snocs_append, first, listing_grows, expr_grows}

module _ (numeral : ℕ → Option (List ℕ)) where
  -- tokens that grow into trees
  abbrev pub Line : List Item → Trees → Type 0
  Line is us = trees (items_tokens numeral is) ≡ Some us

  from : (is : List Item) (us : Trees) → grow (items_tokens numeral is ++ []) (growing nil []) ≡ Some (growing us []) → Line is us
  from is us e = ap trees (sym (append-nil (items_tokens numeral is))) ∙ ap (λ z. and_then z grown) e

  -- with one tree more at the end
  ended_by : (front : Trees → Trees) (us : Trees) (t : Tree) → ◌≡◌ {A = Option Growing} (Some (growing (front (snoc us t)) [])) (Some (growing (front (append_t us (one t))) []))
  ended_by front us t = ap (λ z. Some (growing (front z) [])) (snocs_append (one t) us)

  pub expr_trees_lem : (e : Expr) (l : ℕ) → Line (expr_items e l) (expr_trees numeral e)
  expr_trees_lem e l = from (expr_items e l) (expr_trees numeral e) (expr_grows numeral e l [] nil [])

  pub const_trees_lem : (base n : ℕ) (e : Expr) → Line (stmt_items base (const n e)) (const_trees numeral n e)
  const_trees_lem base n e =
      from (stmt_items base (const n e)) (const_trees numeral n e)
      (first numeral (expr_items e base) (expr_trees numeral e) (expr_grows numeral e base) (items.mark 59 ∷ line_end ∷ []) [] (cons (word_tree (codes "const")) (cons (name_tree n) (one equals))) []
      ∙ ended_by (λ z. cons (word_tree (codes "const")) (cons (name_tree n) (cons equals z))) (expr_trees numeral e) semicolon)

  pub assign_trees_lem : (base n : ℕ) (k : Key) (e : Expr) → Line (stmt_items base (assign n k e)) (assign_trees numeral n k e)
  assign_trees_lem base n (index i) e =
      from (stmt_items base (assign n (index i) e)) (assign_trees numeral n (index i) e)
      (first numeral (expr_items e base) (expr_trees numeral e) (expr_grows numeral e base) (items.mark 59 ∷ line_end ∷ []) [] (cons (name_tree n) (cons (node 91 (access_trees (index i))) (one equals))) []
      ∙ ended_by (λ z. cons (name_tree n) (cons (node 91 (access_trees (index i))) (cons equals z))) (expr_trees numeral e) semicolon)
  assign_trees_lem base n (name t) e =
      from (stmt_items base (assign n (name t) e)) (assign_trees numeral n (name t) e)
      (first numeral (expr_items e base) (expr_trees numeral e) (expr_grows numeral e base) (items.mark 59 ∷ line_end ∷ []) [] (cons (name_tree n) (cons (node 91 (access_trees (name t))) (one equals))) []
      ∙ ended_by (λ z. cons (name_tree n) (cons (node 91 (access_trees (name t))) (cons equals z))) (expr_trees numeral e) semicolon)

  pub put_trees_lem : (base n : ℕ) (e f : Expr) → Line (stmt_items base (put n e f)) (append_t (put_trees numeral n e f) (one semicolon))
  put_trees_lem base n e f =
      from (stmt_items base (put n e f)) (append_t (put_trees numeral n e f) (one semicolon))
      (first numeral (expr_items e base) (expr_trees numeral e) (expr_grows numeral e base) (items.mark 44 ∷ blanks 1 ∷ (expr_items f base ++ (items.mark 41 ∷ items.mark 59 ∷ line_end ∷ []))) [] nil (held 40 (cons (name_tree n) (member (codes "set") nil)) ∷ [])
      ∙ (first numeral (expr_items f base) (expr_trees numeral f) (expr_grows numeral f base) (items.mark 41 ∷ items.mark 59 ∷ line_end ∷ []) [] (snoc (expr_trees numeral e) comma) (held 40 (cons (name_tree n) (member (codes "set") nil)) ∷ [])
      ∙ ap (λ z. Some (growing (cons (name_tree n) (member (codes "set") (cons (node 40 z) (one semicolon)))) [])) (push (expr_trees numeral e) comma (expr_trees numeral f))))

  pub add_trees_lem : (base n : ℕ) (e : Expr) → Line (stmt_items base (add n e)) (append_t (add_trees numeral n e) (one semicolon))
  add_trees_lem base n e =
      from (stmt_items base (add n e)) (append_t (add_trees numeral n e) (one semicolon))
      (first numeral (expr_items e base) (expr_trees numeral e) (expr_grows numeral e base) (items.mark 41 ∷ items.mark 59 ∷ line_end ∷ []) [] nil (held 40 (cons (name_tree n) (member (codes "add") nil)) ∷ []))

  pub fill_trees_lem : (base n : ℕ) (k : ViewKind) (bytes : List ℕ) → Line (stmt_items base (fill n k bytes)) (append_t (fill_trees numeral n k bytes) (one semicolon))
  fill_trees_lem base n k bytes =
      from (stmt_items base (fill n k bytes)) (append_t (fill_trees numeral n k bytes) (one semicolon))
      (first numeral (list_of (listing k) (width k) base bytes) (list_of_trees (listing k) (width k) bytes) (listing_grows numeral (listing k) (width k) base bytes) (items.mark 41 ∷ items.mark 59 ∷ line_end ∷ []) [] nil
      (held 40 (new_trees (view_name k) (one (name_tree n)) (member (codes "set") nil)) ∷ []))

  pub last_trees_lem : (base : ℕ) (b : Bool) (e : Expr) → Line (stmt_items base (last b e)) (last_trees numeral b e)
  last_trees_lem base true e =
      from (stmt_items base (last true e)) (last_trees numeral true e)
      (first numeral (expr_items e base) (expr_trees numeral e) (expr_grows numeral e base) (items.mark 41 ∷ []) [] nil (held 40 nil ∷ []))
  last_trees_lem base false e = expr_trees_lem e base
