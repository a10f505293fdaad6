-- Running the tokens of a statement does what the statement does.
use Rattle.std.proofs.Common.{◌≡◌, ℕ, ◌-◌, Bool, true, false, cond, not, ◌&&◌, List, [], ◌∷◌, ◌++◌, length, take, drop, is_some, Some, None, codes, Option, sym, refl, ap, ◌∙◌, subst, append-nil, arith}
use Rattle.dump.specs.declared.kinds.ViewKind.{ViewKind}
use Rattle.dump.specs.Heaps.{Text, Key, index, name}
use Rattle.dump.specs.Kinds.{width}
use Rattle.speller.specs.Spelling.{Lawful}
use Rattle.script.specs.Items as items
use Rattle.script.specs.Items.{Item, line_end}
use Rattle.script.specs.Syntax.{Expr, Stmt, opening, const, assign, put, add, fill, last, return}
use Rattle.script.specs.Texts.{view_name, Listing, numbers, floats, listing, expr_items, stmt_items}
use Rattle.evaluator.specs.Options.{and_then, when, or_else}
use Rattle.evaluator.specs.Tokens.{Token, word, break}
use Rattle.evaluator.specs.Trees.{node, Trees, cons, trees}
use Rattle.evaluator.specs.Stores as stores
use Rattle.evaluator.specs.Stores.{Val, undefined, ref, bound, Obj, State, Made, made, lookup, change, place, object_of}
use Rattle.evaluator.specs.Makes.{key_in, set_pair, set_typed, add_one, call}
use Rattle.evaluator.specs.Commands.{assigned, Command, binds, assigns, does, gives, command, Ran, ran, solid, is_opening, is_closing, breaks_first, without_breaks}
use Rattle.evaluator.specs.Runs.{evaluate, run_command, returned, run_tokens}
use Rattle.evaluator.specs.Isomorphic.{key_text}
use Rattle.effects.specs.Tokens.{items_tokens}
use Rattle.effects.specs.Effects.{count, grown, listed, expr_made, filled_by, stmt_done}
use Rattle.effects.specs.Readable.{Small, Data, IsNumbers, KeyReadable, ExprReadable, StmtReadable}
use Rattle.leaves.proofs.Wholes.{key_in_lem}
use Rattle.leaves.proofs.Fills.{Filled, fill_made}
use Rattle.traces.specs.Theorem.{Inverse}
use Rattle.reading.specs.Trees.{append_t, one, comma, name_tree, number_tree, new_trees, member, list_trees, list_of_trees, access_trees, expr_trees}
use Rattle.reading.specs.Starts.{starts}
use Rattle.reading.specs.Statements.{semicolon, const_trees, assign_trees, put_trees, add_trees, fill_trees, last_trees}
use Rattle.effects.proofs.Options.{taken}
use Rattle.reading.proofs.Grown.{tokens_append}
use Rattle.reading.proofs.Steps.{Gives, give_comma, give_last, give_then, give_whole, give_round, step_new, step_call}
use Rattle.reading.proofs.Values.{name_gives, number_gives}
use Rattle.reading.proofs.Typed.{fits_of, list_gives}
use Rattle.reading.proofs.Exprs.{expr_gives}
use Rattle.reading.proofs.Starts.{expr_starts, not_opening, not_opening_round, not_return, no_break}
use Rattle.reading.proofs.Lines.{const_trees_lem, assign_trees_lem, put_trees_lem, add_trees_lem, fill_trees_lem, last_trees_lem, expr_trees_lem}
use Rattle.reading.proofs.Commands.{const_command, assign_command, call_command, new_command, last_command}
use Rattle.reading.proofs.Returns.{closing, return_runs}

-- a line by its trees
run_line_lem : (reading : List ℕ → Option ℕ) (ts : List Token) (us : Trees) (c : Command) (s : State) → is_opening (solid ts) ≡ false → returned reading ts s ≡ None → trees ts ≡ Some us → command us ≡ Some c
    → run_tokens reading ts s ≡ run_command reading c s
run_line_lem reading ts us c s o r t d =
    ap (λ b. cond b (ran s None) (or_else (returned reading ts s) (and_then (and_then (trees ts) command) (λ x. run_command reading x s)))) o
    ∙ (ap (λ z. or_else z (and_then (and_then (trees ts) command) (λ x. run_command reading x s))) r
    ∙ (ap (λ z. and_then (and_then z command) (λ x. run_command reading x s)) t
    ∙ ap (λ z. and_then z (λ x. run_command reading x s)) d))

module _ (numeral : ℕ → Option (List ℕ)) (reading : List ℕ → Option ℕ) (lawful : Lawful numeral) (inverse : Inverse numeral reading) where
  -- the tokens of two texts
  tokens_both : (xs ys : List Item) → items_tokens numeral (xs ++ ys) ≡ items_tokens numeral xs ++ items_tokens numeral ys
  tokens_both xs ys = sym (append-nil (items_tokens numeral (xs ++ ys))) ∙ (tokens_append numeral xs ys [] ∙ ap (λ z. items_tokens numeral xs ++ z) (append-nil (items_tokens numeral ys)))

  -- const
  reads_const : (base n : ℕ) (e : Expr) → StmtReadable numeral (const n e) → (s : State) (r : Ran) → stmt_done (const n e) s ≡ Some r → run_tokens reading (items_tokens numeral (stmt_items base (const n e))) s ≡ Some r
  reads_const base n e ok s r d =
      let t = taken (expr_made e s) _ r d in
      run_line_lem reading (items_tokens numeral (stmt_items base (const n e))) (const_trees numeral n e) (binds n (expr_trees numeral e)) s refl refl (const_trees_lem numeral base n e) (const_command numeral n e ok.0)
      ∙ (ap (λ z. and_then z (λ m. when (not (is_some (lookup m.state.names n))) (ran (record { objects = m.state.objects; names = m.state.names ++ (bound n m.val ∷ []) }) None)))
      (give_whole reading (expr_trees numeral e) s t.0 (expr_gives numeral reading lawful inverse e ok.1 s t.0 t.1))
      ∙ t.2)

  -- a key behind a name
  access : (k : Key) → KeyReadable k → (s : State) → (v : Val) × (evaluate reading (access_trees k) s ≡ made v s) × (key_in v ≡ Some (key_text k))
  access (index n) ok s = (count n, give_whole reading (one (number_tree n)) s (record { val = count n; state = s }) (number_gives numeral reading lawful inverse n ok s), key_in_lem n (omega arith))
  access (name t) ok s = (stores.text t, refl, refl)

  assign_runs : (n : ℕ) (k e : Trees) (s : State) (target v : Val) (key : Text) (m : Made) (r : Ran) → lookup s.names n ≡ Some target → evaluate reading k s ≡ made v s → key_in v ≡ Some key → evaluate reading e s ≡ Some m
      → and_then (place target) (λ p. and_then (object_of m.state target) (λ o. and_then (assigned key m.val o.shape o.slots) (λ u. ran (change p u m.state) None))) ≡ Some r
      → run_command reading (assigns n k e) s ≡ Some r
  assign_runs n k e s target v key m r a b c d f =
      let g : Text → Made → Option Ran = λ x y. and_then (place target) (λ p. and_then (object_of y.state target) (λ o. and_then (assigned x y.val o.shape o.slots) (λ u. ran (change p u y.state) None))) in
      ap (λ z. and_then z (λ t. and_then (evaluate reading k s) (λ y. and_then (key_in y.val) (λ x. and_then (evaluate reading e y.state) (λ w.
      and_then (place t) (λ p. and_then (object_of w.state t) (λ o. and_then (assigned x w.val o.shape o.slots) (λ u. ran (change p u w.state) None)))))))) a
      ∙ (ap (λ z. and_then z (λ y. and_then (key_in y.val) (λ x. and_then (evaluate reading e y.state) (g x)))) b
      ∙ (ap (λ z. and_then z (λ x. and_then (evaluate reading e s) (g x))) c
      ∙ (ap (λ z. and_then z (g key)) d ∙ f)))

  reads_assign : (base n : ℕ) (k : Key) (e : Expr) → StmtReadable numeral (assign n k e) → (s : State) (r : Ran) → stmt_done (assign n k e) s ≡ Some r → run_tokens reading (items_tokens numeral (stmt_items base (assign n k e))) s ≡ Some r
  reads_assign base n k e ok s r d =
      let t = taken (lookup s.names n) _ r d in
      let u = taken (expr_made e s) _ r t.2 in
      let x = access k ok.1 s in
      run_line_lem reading (items_tokens numeral (stmt_items base (assign n k e))) (assign_trees numeral n k e) (assigns n (access_trees k) (expr_trees numeral e)) s refl refl (assign_trees_lem numeral base n k e) (assign_command numeral n k e ok.0)
      ∙ assign_runs n (access_trees k) (expr_trees numeral e) s t.0 x.0 (key_text k) u.0 r t.1 x.1 x.2 (give_whole reading (expr_trees numeral e) s u.0 (expr_gives numeral reading lawful inverse e ok.2 s u.0 u.1)) u.2

  -- calls
  does_runs : (ts : Trees) (s : State) (m : Made) (r : Ran) → Gives reading ts s m → ran m.state None ≡ Some r → run_command reading (does ts) s ≡ Some r
  does_runs ts s m r g e = ap (λ z. and_then z (λ x. ran x.state None)) (give_whole reading ts s m g) ∙ e

  set_call : (v a b : Val) (s : State) (p : ℕ) (o : Obj) (m : Made) → place v ≡ Some p → object_of s v ≡ Some o → set_pair p o.shape o.slots (a ∷ b ∷ []) s ≡ Some m → call (codes "set") v (a ∷ b ∷ []) s ≡ Some m
  set_call v a b s p o m e f g =
      ap (λ z. or_else (and_then z (λ n. and_then (object_of s v) (λ x. set_pair n x.shape x.slots (a ∷ b ∷ []) s))) (set_typed v (a ∷ b ∷ []) s)) e
      ∙ (ap (λ z. or_else (and_then z (λ x. set_pair p x.shape x.slots (a ∷ b ∷ []) s)) (set_typed v (a ∷ b ∷ []) s)) f
      ∙ ap (λ z. or_else z (set_typed v (a ∷ b ∷ []) s)) g)

  add_call : (v a : Val) (s : State) (p : ℕ) (o : Obj) (m : Made) → place v ≡ Some p → object_of s v ≡ Some o → add_one p o.shape o.slots (a ∷ []) s ≡ Some m → call (codes "add") v (a ∷ []) s ≡ Some m
  add_call v a s p o m e f g =
      ap (λ z. and_then z (λ n. and_then (object_of s v) (λ x. add_one n x.shape x.slots (a ∷ []) s))) e ∙ (ap (λ z. and_then z (λ x. add_one p x.shape x.slots (a ∷ []) s)) f ∙ g)

  put_gives : (n : ℕ) (e f : Expr) (s : State) (target : Val) (k v m : Made) → Small n → lookup s.names n ≡ Some target → Gives reading (expr_trees numeral e) s k → Gives reading (expr_trees numeral f) k.state v
      → call (codes "set") target (k.val ∷ v.val ∷ []) v.state ≡ Some m → Gives reading (put_trees numeral n e f) s m
  put_gives n e f s target k v m small a g h c =
      let args : Trees = append_t (expr_trees numeral e) (cons comma (expr_trees numeral f)) in
      record {
        free = refl;
        evals =
            give_then reading (one (name_tree n)) (member (codes "set") (one (node 40 args))) s (record { val = target; state = s }) (name_gives numeral reading lawful inverse n target s small a)
            ∙ step_call reading (codes "set") args target s (record { vals = Some k.val ∷ Some v.val ∷ []; state = v.state }) (k.val ∷ v.val ∷ []) m refl
            (give_comma reading (expr_trees numeral e) (expr_trees numeral f) [] s k g ∙ give_last reading (expr_trees numeral f) (Some k.val ∷ []) k.state v h) refl c;
      }

  add_gives : (n : ℕ) (e : Expr) (s : State) (target : Val) (v m : Made) → Small n → lookup s.names n ≡ Some target → Gives reading (expr_trees numeral e) s v
      → call (codes "add") target (v.val ∷ []) v.state ≡ Some m → Gives reading (add_trees numeral n e) s m
  add_gives n e s target v m small a g c =
      record {
        free = refl;
        evals =
            give_then reading (one (name_tree n)) (member (codes "add") (one (node 40 (expr_trees numeral e)))) s (record { val = target; state = s }) (name_gives numeral reading lawful inverse n target s small a)
            ∙ step_call reading (codes "add") (expr_trees numeral e) target s (record { vals = Some v.val ∷ []; state = v.state }) (v.val ∷ []) m refl (give_last reading (expr_trees numeral e) [] s v g) refl c;
      }

  reads_put : (base n : ℕ) (e f : Expr) → StmtReadable numeral (put n e f) → (s : State) (r : Ran) → stmt_done (put n e f) s ≡ Some r → run_tokens reading (items_tokens numeral (stmt_items base (put n e f))) s ≡ Some r
  reads_put base n e f ok s r d =
      let t = taken (lookup s.names n) _ r d in
      let k = taken (expr_made e s) _ r t.2 in
      let v = taken (expr_made f k.0.state) _ r k.2 in
      let p = taken (place t.0) _ r v.2 in
      let o = taken (object_of v.0.state t.0) _ r p.2 in
      let m = taken (set_pair p.0 o.0.shape o.0.slots (k.0.val ∷ v.0.val ∷ []) v.0.state) _ r o.2 in
      run_line_lem reading (items_tokens numeral (stmt_items base (put n e f))) (append_t (put_trees numeral n e f) (one semicolon)) (does (put_trees numeral n e f)) s refl refl (put_trees_lem numeral base n e f) (call_command n (codes "set") (one (node 40 (append_t (expr_trees numeral e) (cons comma (expr_trees numeral f))))) ok.0)
      ∙ does_runs (put_trees numeral n e f) s m.0 r
      (put_gives n e f s t.0 k.0 v.0 m.0 ok.0 t.1 (expr_gives numeral reading lawful inverse e ok.1 s k.0 k.1) (expr_gives numeral reading lawful inverse f ok.2 k.0.state v.0 v.1)
      (set_call t.0 k.0.val v.0.val v.0.state p.0 o.0 m.0 p.1 o.1 m.1)) m.2

  reads_add : (base n : ℕ) (e : Expr) → StmtReadable numeral (add n e) → (s : State) (r : Ran) → stmt_done (add n e) s ≡ Some r → run_tokens reading (items_tokens numeral (stmt_items base (add n e))) s ≡ Some r
  reads_add base n e ok s r d =
      let t = taken (lookup s.names n) _ r d in
      let v = taken (expr_made e s) _ r t.2 in
      let p = taken (place t.0) _ r v.2 in
      let o = taken (object_of v.0.state t.0) _ r p.2 in
      let m = taken (add_one p.0 o.0.shape o.0.slots (v.0.val ∷ []) v.0.state) _ r o.2 in
      run_line_lem reading (items_tokens numeral (stmt_items base (add n e))) (append_t (add_trees numeral n e) (one semicolon)) (does (add_trees numeral n e)) s refl refl (add_trees_lem numeral base n e) (call_command n (codes "add") (one (node 40 (expr_trees numeral e))) ok.0)
      ∙ does_runs (add_trees numeral n e) s m.0 r
      (add_gives n e s t.0 v.0 m.0 ok.0 t.1 (expr_gives numeral reading lawful inverse e ok.1 s v.0 v.1) (add_call t.0 v.0.val v.0.state p.0 o.0 m.0 p.1 o.1 m.1)) m.2

  -- bytes into a buffer
  fill_gives : (n : ℕ) (k : ViewKind) (bytes : List ℕ) (minus big? : Bool) → Small n → Data k bytes → listing k ≡ numbers minus big? → (s t : State) (target : Val) → lookup s.names n ≡ Some target
      → Filled k target minus big? bytes s t → Gives reading (fill_trees numeral n k bytes) s (record { val = undefined; state = t })
  fill_gives n k bytes minus big? small d l s t target a f =
      let list : Trees = one (node 91 (list_trees minus big? (width k) [] bytes)) in
      let v : Val = ref (length f.on.state.objects) in
      let after : State = grown f.on.state (listed minus big? (width k) bytes ∷ []) in
      subst (λ x. Gives reading (new_trees (view_name k) (one (name_tree n)) (member (codes "set") (one (node 40 (list_of_trees x (width k) bytes))))) s (record { val = undefined; state = t })) (sym l)
      (record {
        free = refl;
        evals =
            step_new reading (view_name k) (one (name_tree n)) (member (codes "set") (one (node 40 list))) s (record { vals = Some target ∷ []; state = s }) (target ∷ []) f.on
            (give_last reading (one (name_tree n)) [] s (record { val = target; state = s }) (name_gives numeral reading lawful inverse n target s small a)) refl f.constructed
            ∙ step_call reading (codes "set") list f.on.val f.on.state (record { vals = Some v ∷ []; state = after }) (v ∷ []) (record { val = undefined; state = t }) refl
            (give_last reading list [] f.on.state (record { val = v; state = after }) (list_gives numeral reading lawful inverse minus big? (width k) (fits_of k minus big? l) bytes d.octets f.on.state)) refl f.done;
      })

  reads_fill : (base n : ℕ) (k : ViewKind) (bytes : List ℕ) → StmtReadable numeral (fill n k bytes) → (s : State) (r : Ran) → stmt_done (fill n k bytes) s ≡ Some r → run_tokens reading (items_tokens numeral (stmt_items base (fill n k bytes))) s ≡ Some r
  reads_fill base n k bytes ok s r d =
      let t = taken (lookup s.names n) _ r d in
      let p = taken (place t.0) _ r t.2 in
      let u = taken (filled_by (listing k) p.0 t.0 k bytes s) _ r p.2 in
      run_line_lem reading (items_tokens numeral (stmt_items base (fill n k bytes))) (append_t (fill_trees numeral n k bytes) (one semicolon)) (does (fill_trees numeral n k bytes)) s refl refl (fill_trees_lem numeral base n k bytes) (new_command (view_name k) (one (name_tree n)) (member (codes "set") (one (node 40 (list_of_trees (listing k) (width k) bytes)))))
      ∙ does_runs (fill_trees numeral n k bytes) s (record { val = undefined; state = u.0 }) r (by (listing k) refl ok.2 u.0 t.0 t.1 p.0 p.1 u.1) u.2
    where
      by : (l : Listing) → listing k ≡ l → IsNumbers l → (t : State) (target : Val) → lookup s.names n ≡ Some target → (p : ℕ) → place target ≡ Some p → filled_by (listing k) p target k bytes s ≡ Some t → Gives reading (fill_trees numeral n k bytes) s (record { val = undefined; state = t })
      by (numbers minus big?) l i t target a p q f = fill_gives n k bytes minus big? ok.0 ok.1 l s t target a (fill_made k bytes minus big? ok.1 l p target s t q f)
      by floats l i t target a p q f = absurd i

  -- the last line
  gives_runs : (ts : Trees) (s : State) (m : Made) (r : Ran) → Gives reading ts s m → ran m.state (Some m.val) ≡ Some r → run_command reading (gives ts) s ≡ Some r
  gives_runs ts s m r g e = ap (λ z. and_then z (λ x. ran x.state (Some x.val))) (give_whole reading ts s m g) ∙ e

  begins_line : (e : Expr) → ExprReadable numeral e → (base : ℕ) (ys : List Item) → starts (items_tokens numeral (expr_items e base ++ ys)) ≡ true
  begins_line e ok base ys = ap starts (tokens_both (expr_items e base) ys) ∙ expr_starts numeral lawful e ok base (items_tokens numeral ys)

  reads_last : (base : ℕ) (b : Bool) (e : Expr) → StmtReadable numeral (last b e) → (s : State) (r : Ran) → stmt_done (last b e) s ≡ Some r → run_tokens reading (items_tokens numeral (stmt_items base (last b e))) s ≡ Some r
  reads_last base true e ok s r d =
      let t = taken (expr_made e s) _ r d in
      run_line_lem reading (items_tokens numeral (stmt_items base (last true e))) (last_trees numeral true e) (gives (last_trees numeral true e)) s (not_opening_round (items_tokens numeral (expr_items e base ++ (items.mark 41 ∷ []))) (begins_line e ok.0 base (items.mark 41 ∷ []))) refl (last_trees_lem numeral base true e) (last_command numeral true e ok.1)
      ∙ gives_runs (last_trees numeral true e) s t.0 r (give_round reading (expr_trees numeral e) s t.0 (expr_gives numeral reading lawful inverse e ok.0 s t.0 t.1)) t.2
  reads_last base false e ok s r d =
      let t = taken (expr_made e s) _ r d in
      let ts : List Token = items_tokens numeral (expr_items e base) in
      let h : starts ts ≡ true = ap starts (sym (append-nil ts)) ∙ expr_starts numeral lawful e ok.0 base [] in
      run_line_lem reading ts (expr_trees numeral e) (gives (expr_trees numeral e)) s (not_opening ts h)
      (ap (λ b. when (b && (not (breaks_first (drop 1 (without_breaks ts))) && is_closing (drop (length (solid ts) - 4) (solid ts)))) (and_then (trees (take (length (solid ts) - 5) (drop 1 (solid ts)))) (λ x. run_command reading (gives x) s))) (not_return ts h))
      (last_trees_lem numeral base false e) (last_command numeral false e ok.1)
      ∙ gives_runs (expr_trees numeral e) s t.0 r (expr_gives numeral reading lawful inverse e ok.0 s t.0 t.1) t.2

  reads_return : (base : ℕ) (e : Expr) → ExprReadable numeral e → (s : State) (r : Ran) → stmt_done (return e) s ≡ Some r → run_tokens reading (items_tokens numeral (stmt_items base (return e))) s ≡ Some r
  reads_return base e ok s r d =
      let t = taken (expr_made e s) _ r d in
      let xs : List Token = items_tokens numeral (expr_items e base) in
      ap (λ z. run_tokens reading (word (codes "return") ∷ z) s) (tokens_both (expr_items e base) (line_end ∷ items.mark 125 ∷ items.mark 41 ∷ items.mark 40 ∷ items.mark 41 ∷ []))
      ∙ ap (λ z. or_else z (and_then (and_then (trees (word (codes "return") ∷ (xs ++ (break ∷ closing)))) command) (λ x. run_command reading x s)))
      (return_runs reading xs (expr_trees numeral e) s (no_break (xs ++ (break ∷ closing)) (expr_starts numeral lawful e ok base (break ∷ closing))) (expr_trees_lem numeral e base)
      ∙ gives_runs (expr_trees numeral e) s t.0 r (expr_gives numeral reading lawful inverse e ok s t.0 t.1) t.2)

-- every statement
pub reads : (numeral : ℕ → Option (List ℕ)) (reading : List ℕ → Option ℕ) → Lawful numeral → Inverse numeral reading → (base : ℕ) (s : Stmt) → StmtReadable numeral s
    → (st : State) (r : Ran) → stmt_done s st ≡ Some r → run_tokens reading (items_tokens numeral (stmt_items base s)) st ≡ Some r
reads numeral reading lawful inverse base opening ok st r d = d
reads numeral reading lawful inverse base (const n e) ok st r d = reads_const numeral reading lawful inverse base n e ok st r d
reads numeral reading lawful inverse base (assign n k e) ok st r d = reads_assign numeral reading lawful inverse base n k e ok st r d
reads numeral reading lawful inverse base (put n e f) ok st r d = reads_put numeral reading lawful inverse base n e f ok st r d
reads numeral reading lawful inverse base (add n e) ok st r d = reads_add numeral reading lawful inverse base n e ok st r d
reads numeral reading lawful inverse base (fill n k bytes) ok st r d = reads_fill numeral reading lawful inverse base n k bytes ok st r d
reads numeral reading lawful inverse base (last b e) ok st r d = reads_last numeral reading lawful inverse base b e ok st r d
reads numeral reading lawful inverse base (return e) ok st r d = reads_return numeral reading lawful inverse base e ok st r d
