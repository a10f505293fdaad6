-- The trees of statements.
use Rattle.std.specs.Prelude.{ℕ, Bool, true, false, List, codes, Option}
use Rattle.dump.specs.declared.kinds.ViewKind.{ViewKind}
use Rattle.dump.specs.Heaps.{Key}
use Rattle.dump.specs.Kinds.{width}
use Rattle.script.specs.Syntax.{Expr}
use Rattle.script.specs.Texts.{view_name, listing}
use Rattle.evaluator.specs.Tokens.{mark}
use Rattle.evaluator.specs.Trees.{Tree, leaf, node, Trees, cons}
use Rattle.reading.specs.Trees.{append_t, one, comma, word_tree, name_tree, new_trees, member, list_of_trees, access_trees, expr_trees}

abbrev pub semicolon : Tree
semicolon = leaf (mark 59)

abbrev pub equals : Tree
equals = leaf (mark 61)

module _ (numeral : ℕ → Option (List ℕ)) where
  abbrev pub const_trees : ℕ → Expr → Trees
  const_trees n e = cons (word_tree (codes "const")) (cons (name_tree n) (cons equals (append_t (expr_trees numeral e) (one semicolon))))

  abbrev pub assign_trees : ℕ → Key → Expr → Trees
  assign_trees n k e = cons (name_tree n) (cons (node 91 (access_trees k)) (cons equals (append_t (expr_trees numeral e) (one semicolon))))

  -- calls, without their semicolon
  abbrev pub put_trees : ℕ → Expr → Expr → Trees
  put_trees n e f = cons (name_tree n) (member (codes "set") (one (node 40 (append_t (expr_trees numeral e) (cons comma (expr_trees numeral f))))))

  abbrev pub add_trees : ℕ → Expr → Trees
  add_trees n e = cons (name_tree n) (member (codes "add") (one (node 40 (expr_trees numeral e))))

  abbrev pub fill_trees : ℕ → ViewKind → List ℕ → Trees
  fill_trees n k bytes = new_trees (view_name k) (one (name_tree n)) (member (codes "set") (one (node 40 (list_of_trees (listing k) (width k) bytes))))

  -- the last line, in brackets or not
  abbrev pub last_trees : Bool → Expr → Trees
  last_trees true e = one (node 40 (expr_trees numeral e))
  last_trees false e = expr_trees numeral e
