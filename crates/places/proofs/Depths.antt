-- How deep the expressions and statements of a plan are: the numbers by places say it.
use Rattle.std.proofs.Common.{◌≡◌, ℕ, zero, suc, ◌+◌, ◌*◌, ◌/◌, ◌≤◌, max, Bool, true, false, cond, not, ◌&&◌, ◌||◌, eqb, ltb, List, [], ◌∷◌, ◌++◌, length, get_or, take, is_some, Some, None, Option, sym, refl, ap, ◌∙◌, subst, ⊎_elim, append_assoc, arith}
use mathlib.Core.List.{map-append}
use mathlib.Core.List as lists
use Rattle.std.specs.List.{AllByRecursion as All}
use Rattle.std.proofs.lemmas.List.{map_push}
use Rattle.dump.specs.Heaps.{Value, undefined, null, hole, boolean, whole, double, bigint, text, object, Kind, boolean_object, number_object, bigint_object, string_object, regexp, date, plain, sparse, dense, map, set, buffer, view, error, Part, property, element, entry, member, below, cause, Heap}
use Rattle.dump.specs.declared.kinds.ViewKind.{ViewKind}
use Rattle.dump.specs.Kinds.{width}
use Rattle.dump.specs.Rules.{refuse}
use Rattle.formed.specs.Formed.{PropertyFormed, ElementFormed, EntryFormed, MemberFormed, CauseFormed, PartsFormed}
use Rattle.script.specs.Texts.{all_zero}
use Rattle.script.specs.Syntax.{circular, new_typed, Expr, form, Items, none, item, pair, Stmt, opening, const, last, return}
use Rattle.planner.specs.Visits.{refs, edges_of, edges, object_at, mem}
use Rattle.planner.specs.Names.{ViewContent, view_in, buffer_in, is_view, kind_needs_name, pos, uses, turns, inlines, covers, backing, is_same, backed, slot, has_name, ready_before, first}
use Rattle.planner.specs.Builds.{view_on, subarray_of, name_expr, value_expr, child_expr, element_items, items_of, buffer_expr, same_kind, on_named, on_inlined, view_by, view_expr, kind_expr, object_expr, build_all, built}
use Rattle.planner.specs.Lates.{Task, sets, puts, adds, fills, Late}
use Rattle.planner.specs.Lines.{Format, target, has_line, expr_of, late_stmt, all_due, due_at, lines_at, wrapped, stmts, depth, depths, stmt_depth, not_deep}
use Rattle.visits.proofs.Lists.{mem_right, mem_head, once_before}
use Rattle.visits.proofs.Orders.{place_split}
use Rattle.rebuilds.specs.Adequate.{Adequate}
use Rattle.rebuilds.specs.Makes.{written_parts, written_by, written}
use Rattle.rebuilds.specs.Depths.{deepest, object_depth, depths_all, built_depths, value_depth, task_depth, due_depths, line_depth, line_depths, stmt_depths, none_deep}
use Rattle.effects.proofs.Options.{cases_option}
use Rattle.effects.proofs.Objects.{formed_at}
use Rattle.places.proofs.Objects.{view_in_lem, view_formed, view_edges, view_group}
use Rattle.places.proofs.Names.{not_backed, resizable_not_backing, named_if, edge_buffer}
use Rattle.places.proofs.Builts.{at_place, build_length, build_keeps, build_append, built_at}
use Rattle.effects.specs.Plans.{braced}
use Rattle.effects.specs.Bounded.{Bounded}

-- past the last place both are 0
pub depth_get_or : (es : List Expr) (i : ℕ) → get_or (lists.map depth es) i 0 ≡ depth (at_place es i)
depth_get_or [] i = refl
depth_get_or (e ∷ es) zero = refl
depth_get_or (e ∷ es) (suc i) = depth_get_or es i

-- both ways as deep
cond_depth : {d : ℕ} (t : Bool) (x y : Expr) → depth x ≡ d → depth y ≡ d → depth (cond t x y) ≡ d
cond_depth true x y e f = e
cond_depth false x y e f = f

-- the test needs only the depths
pub none_deep_lem : (i : ℕ) (ss : List Stmt) → not_deep i ss ≡ none_deep i (lists.map stmt_depth ss)
none_deep_lem i [] = refl
none_deep_lem i (s ∷ ss) = ap (cond (ltb 128 (stmt_depth s)) (refuse 12 0 i)) (none_deep_lem (suc i) ss)

-- Parts of which none is a buffer, and a cause is the last.
abbrev Listed : List Part → Type 0
Listed [] = Unit {0}
Listed (property k v ∷ ps) = Listed ps
Listed (element v ∷ ps) = Listed ps
Listed (entry k v ∷ ps) = Listed ps
Listed (member v ∷ ps) = Listed ps
Listed (below b ∷ ps) = ⊥
Listed (cause v ∷ ps) = ps ≡ []

properties_listed : (n limit : ℕ) (array : Bool) (ps : List Part) → All (PropertyFormed n limit array) ps → Listed ps
properties_listed n limit array [] a = tt
properties_listed n limit array (p ∷ ps) a = subst (λ q. Listed (q ∷ ps)) (sym a.0.2) (properties_listed n limit array ps a.1)

elements_listed : (n : ℕ) (ps : List Part) → All (ElementFormed n) ps → Listed ps
elements_listed n [] a = tt
elements_listed n (p ∷ ps) a = subst (λ q. Listed (q ∷ ps)) (sym a.0.1) (elements_listed n ps a.1)

entries_listed : (n : ℕ) (ps : List Part) → All (EntryFormed n) ps → Listed ps
entries_listed n [] a = tt
entries_listed n (p ∷ ps) a = subst (λ q. Listed (q ∷ ps)) (sym a.0.2) (entries_listed n ps a.1)

members_listed : (n : ℕ) (ps : List Part) → All (MemberFormed n) ps → Listed ps
members_listed n [] a = tt
members_listed n (p ∷ ps) a = subst (λ q. Listed (q ∷ ps)) (sym a.0.1) (members_listed n ps a.1)

causes_listed : (n : ℕ) (ps : List Part) → length ps ≤ 1 → All (CauseFormed n) ps → Listed ps
causes_listed n [] le a = tt
causes_listed n (p ∷ []) le a = subst (λ q. Listed (q ∷ [])) (sym a.0.1) refl
causes_listed n (p ∷ q ∷ ps) le a = absurd (omega arith)

module _ (h : Heap) (order : List ℕ) where
  name_depth : (o : ℕ) → depth (name_expr h order o) ≡ 0
  name_depth o = cond_depth (is_some (backing h order o)) _ _ refl refl

  buffer_depth : (b : ℕ) (bytes : List ℕ) (maximum : Option ℕ) → depth (buffer_expr h order b bytes maximum) ≡ 1
  buffer_depth b bytes (Some m) = refl
  buffer_depth b bytes None = cond_depth (all_zero bytes) _ _ refl refl

  on_named_lem : (k : ViewKind) (offset : ℕ) (n : Option ℕ) (b : ℕ) → depth (view_on k offset n (item (name_expr h order b) none)) ≡ 1
  on_named_lem k offset n b = let z = name_depth b in omega arith

  subarray_depth : (n start end : ℕ) (to_end : Bool) → depth (subarray_of n start end to_end) ≡ 1
  subarray_depth n start end true = refl
  subarray_depth n start end false = refl

  -- a view on a fixed buffer with a name: the backing one has the data
  named_depth : (o : ℕ) (v : ViewContent) (b : ℕ) (bytes : List ℕ) (w : Option ℕ) → depth (on_named h order o v b bytes w) ≡ 1 + cond (is_same h order w o) 1 0
  named_depth o v b bytes None = on_named_lem v.kind v.offset (cond (eqb (v.offset + v.count * width v.kind) (length bytes)) None (Some v.count)) b
  named_depth o v b bytes (Some w) = go (eqb o w)
    where
      ends : Bool
      ends = eqb (v.offset + v.count * width v.kind) (length bytes)

      other : Expr
      other =
          cond (same_kind h order v.kind (view_in (object_at h w).kind)) (subarray_of (slot h order w) (v.offset / width v.kind) (v.offset / width v.kind + v.count) ends)
          (view_on v.kind v.offset (cond ends None (Some v.count)) (item (name_expr h order b) none))

      go : (t : Bool) → depth (cond t (form (new_typed v.kind bytes)) other) ≡ 1 + cond t 1 0
      go true = refl
      go false =
          cond_depth (same_kind h order v.kind (view_in (object_at h w).kind)) _ _ (subarray_depth (slot h order w) (v.offset / width v.kind) (v.offset / width v.kind + v.count) ends)
          (on_named_lem v.kind v.offset (cond ends None (Some v.count)) b)

  pub deepest-++ : (done js ks : List ℕ) → deepest h order done (js ++ ks) ≡ max (deepest h order done js) (deepest h order done ks)
  deepest-++ done [] ks = omega arith
  deepest-++ done (j ∷ js) ks = let ih = deepest-++ done js ks in omega arith

  -- Any list of expressions, with the list of their depths.
  module _ (done : List Expr) where
    abbrev D : List ℕ → ℕ
    D js = deepest h order (lists.map depth done) js

    object_value : (o : ℕ) → depth (value_expr h order done (object o)) ≡ cond (has_name h order o) 0 (get_or (lists.map depth done) (pos h order o) 0)
    object_value o = go (has_name h order o)
      where
        go : (t : Bool) → depth (cond t (name_expr h order o) (at_place done (pos h order o))) ≡ cond t 0 (get_or (lists.map depth done) (pos h order o) 0)
        go true = name_depth o
        go false = sym (depth_get_or done (pos h order o))

    expr_depth : (v : Value) → depth (value_expr h order done v) ≡ D (refs v)
    expr_depth undefined = refl
    expr_depth null = refl
    expr_depth hole = refl
    expr_depth (boolean v) = refl
    expr_depth (whole z) = refl
    expr_depth (double bits) = refl
    expr_depth (bigint t) = refl
    expr_depth (text t) = refl
    expr_depth (object o) = let e = object_value o in omega arith

    child_depth : (t : ℕ) (v : Value) → depth (child_expr h order done t v) ≡ D (cond (ready_before h order t v) (refs v) [])
    child_depth t v = go (ready_before h order t v)
      where
        go : (b : Bool) → depth (cond b (value_expr h order done v) (form circular)) ≡ D (cond b (refs v) [])
        go true = expr_depth v
        go false = refl

    element_depth : (t : ℕ) (v : Value) (is : Items) → depths (element_items h order done t v is) ≡ max (depth (child_expr h order done t v)) (depths is)
    element_depth t undefined is = refl
    element_depth t null is = refl
    element_depth t hole is = omega arith
    element_depth t (boolean v) is = refl
    element_depth t (whole z) is = refl
    element_depth t (double bits) is = refl
    element_depth t (bigint s) is = refl
    element_depth t (text s) is = refl
    element_depth t (object o) is = refl

    -- the items of an object are as deep as what it writes
    items_depth : (t : ℕ) (ps : List Part) → Listed ps → depths (items_of h order done t ps) ≡ D (written_parts h order t ps)
    items_depth t [] a = refl
    items_depth t (property k v ∷ ps) a =
        let c = child_depth t v in
        let d = deepest-++ (lists.map depth done) (cond (ready_before h order t v) (refs v) []) (written_parts h order t ps) in
        let ih = items_depth t ps a in
        omega arith
    items_depth t (element v ∷ ps) a =
        let c = child_depth t v in
        let e = element_depth t v (items_of h order done t ps) in
        let d = deepest-++ (lists.map depth done) (cond (ready_before h order t v) (refs v) []) (written_parts h order t ps) in
        let ih = items_depth t ps a in
        omega arith
    items_depth t (entry k v ∷ ps) a = go (ready_before h order t k && ready_before h order t v) (items_depth t ps a)
      where
        go : (b : Bool) → depths (items_of h order done t ps) ≡ D (written_parts h order t ps) →
            depths (cond b (pair (value_expr h order done k) (value_expr h order done v) (items_of h order done t ps)) none) ≡ D (cond b (refs k ++ (refs v ++ written_parts h order t ps)) [])
        go true ih =
            let x = expr_depth k in
            let y = expr_depth v in
            let d = deepest-++ (lists.map depth done) (refs k) (refs v ++ written_parts h order t ps) in
            let e = deepest-++ (lists.map depth done) (refs v) (written_parts h order t ps) in
            omega arith
        go false ih = refl
    items_depth t (member v ∷ ps) a = go (ready_before h order t v) (items_depth t ps a)
      where
        go : (b : Bool) → depths (items_of h order done t ps) ≡ D (written_parts h order t ps) → depths (cond b (item (value_expr h order done v) (items_of h order done t ps)) none) ≡ D (cond b (refs v ++ written_parts h order t ps) [])
        go true ih = let x = expr_depth v in let d = deepest-++ (lists.map depth done) (refs v) (written_parts h order t ps) in omega arith
        go false ih = refl
    items_depth t (below b ∷ ps) a = absurd a
    items_depth t (cause v ∷ ps) a = subst (λ qs. depths (items_of h order done t (cause v ∷ qs)) ≡ D (written_parts h order t (cause v ∷ qs))) (sym a) (go (ready_before h order t v))
      where
        go : (b : Bool) → depths (cond b (item (value_expr h order done v) none) none) ≡ D (cond b (refs v) [] ++ [])
        go true = let x = expr_depth v in let d = deepest-++ (lists.map depth done) (refs v) [] in omega arith
        go false = refl

    -- every kind but a view
    kind_depth : (n o t : ℕ) (k : Kind) (ps : List Part) → PartsFormed h n k ps → view_in k ≡ None → depth (kind_expr h order done o t k ps) ≡ 1 + D (written_by h order t k ps)
    kind_depth n o t (boolean_object v) ps f e = refl
    kind_depth n o t (number_object bits) ps f e = refl
    kind_depth n o t (bigint_object s) ps f e = refl
    kind_depth n o t (string_object s) ps f e = refl
    kind_depth n o t (regexp s flags) ps f e = refl
    kind_depth n o t (date time) ps f e = refl
    kind_depth n o t plain ps f e = ap (λ d. 1 + d) (items_depth t ps (properties_listed n 4294967295 false ps f.0))
    kind_depth n o t (sparse limit) ps f e = refl
    kind_depth n o t (dense count) ps f e = ap (λ d. 1 + d) (items_depth t (take count ps) (elements_listed n (take count ps) f.1))
    kind_depth n o t map [] f e = refl
    kind_depth n o t map (p ∷ ps) f e = ap (λ d. 1 + d) (items_depth t (p ∷ ps) (entries_listed n (p ∷ ps) f.0))
    kind_depth n o t set [] f e = refl
    kind_depth n o t set (p ∷ ps) f e = ap (λ d. 1 + d) (items_depth t (p ∷ ps) (members_listed n (p ∷ ps) f.0))
    kind_depth n o t (buffer bytes maximum) ps f e = buffer_depth o bytes maximum
    kind_depth n o t (view k offset count tracking) ps f e = absurd (grind arith)
    kind_depth n o t (error m message stack) ps f e = ap (λ d. 1 + d) (items_depth t ps (causes_listed n ps f.0 f.1))

    -- a view on an inlined buffer, which stands inside
    inlined_depth : (o : ℕ) (v : ViewContent) (b : ℕ) (bytes : List ℕ) → depth (at_place done (pos h order b)) ≡ 1 → depth (on_inlined h order done o v b bytes) ≡ 2
    inlined_depth o v b bytes e = cond_depth (covers h order b o) _ _ refl (cond_depth (is_view v.kind) _ _ refl (omega arith))

  -- a view backs a buffer if it is the backing view of its own
  pub backs_own : (o b : ℕ) → edges h o ≡ b ∷ [] → is_some (backed h order o) ≡ is_same h order (backing h order b) o
  backs_own o b e = ap (λ es. is_some (first (λ x. is_same h order (backing h order x) o) es)) e ∙ go (is_same h order (backing h order b) o)
    where
      go : (t : Bool) → is_some (cond t (Some b) None) ≡ t
      go true = refl
      go false = refl

  pub resizable_named : (b : ℕ) (bytes : List ℕ) (m : ℕ) → (object_at h b).kind ≡ buffer bytes (Some m) → has_name h order b ≡ true
  resizable_named b bytes m e = named_if h order b (ap (λ k. not (kind_needs_name k (length (object_at h b).parts) || turns h order b) && ltb (uses h order b) 2) e)

  -- a buffer that inlines has no name
  pub buffer_unnamed : (b : ℕ) (bytes : List ℕ) (maximum : Option ℕ) → (object_at h b).kind ≡ buffer bytes maximum → inlines h order b ≡ true → has_name h order b ≡ false
  buffer_unnamed b bytes maximum e i = ap (λ t. not t || is_some (backed h order b)) i ∙ ap is_some (not_backed h order b (ap view_in e))

  module _ (done : List Expr) (o : ℕ) (v : ViewContent) (b : ℕ) (bytes : List ℕ) where
    -- what the view o on the buffer b counts inside itself
    abbrev inside : Bool → Bool → ℕ
    inside backs has_one = cond backs 1 (max (cond has_one 0 (get_or (lists.map depth done) (pos h order b) 0)) 0)

    view_depth_by : (m : Option ℕ) → (object_at h b).kind ≡ buffer bytes m → depth (at_place done (pos h order b)) ≡ 1 →
        depth (view_by h order done o v b (Some (record { bytes = bytes; maximum = m }))) ≡ 1 + inside (is_same h order (backing h order b) o) (has_name h order b)
    view_depth_by (Some m) e one =
        on_named_lem v.kind v.offset (cond v.tracking None (Some v.count)) b
        ∙ sym (ap (λ w. 1 + inside (is_same h order w o) (has_name h order b)) (resizable_not_backing h order b bytes m e) ∙ ap (λ t. 1 + inside false t) (resizable_named b bytes m e))
    view_depth_by None e one = go (inlines h order b) refl
      where
        go : (t : Bool) → inlines h order b ≡ t → depth (cond t (on_inlined h order done o v b bytes) (on_named h order o v b bytes (backing h order b))) ≡ 1 + inside (is_same h order (backing h order b) o) (has_name h order b)
        go true i =
            let d = inlined_depth done o v b bytes one in
            let g = depth_get_or done (pos h order b) in
            let s = ap (λ w. 1 + inside (is_same h order w o) (has_name h order b)) (ap (λ t. cond {A = Option ℕ} t None (first (covers h order b) order)) i) ∙ ap (λ t. 1 + inside false t) (buffer_unnamed b bytes None e i) in
            omega arith
        go false i = named_depth o v b bytes (backing h order b) ∙ sym (ap (λ t. 1 + inside (is_same h order (backing h order b) o) t) (named_if h order b i))

module _ (h : Heap) (f : Bounded h) (order : List ℕ) (ad : Adequate h order) where
  -- the buffers to which o refers have the depth 1 in `done`
  abbrev Buffers : List Expr → ℕ → Type 0
  Buffers done o = (b : ℕ) (bytes : List ℕ) (maximum : Option ℕ) → mem b (edges h o) ≡ true → (object_at h b).kind ≡ buffer bytes maximum → depth (at_place done (pos h order b)) ≡ 1

  view_object_depth : (done : List Expr) (o : ℕ) (v : ViewContent) → Buffers done o → (object_at h o).kind ≡ view v.kind v.offset v.count v.tracking → depth (object_expr h order done o) ≡ object_depth h order (lists.map depth done) o
  view_object_depth done o v g e =
      let w = view_formed h f o v.kind v.offset v.count v.tracking e in
      let es = view_edges h f o v.kind v.offset v.count v.tracking e in
      let one = g w.on w.bytes w.maximum (ap (mem w.on) es ∙ mem_head w.on []) w.on_buffer in
      ap (λ k. depth (kind_expr h order done o (slot h order o) k (object_at h o).parts)) e
      ∙ (ap (λ xs. depth (view_expr h order done o v xs)) es
      ∙ (ap (λ k. depth (view_by h order done o v w.on (buffer_in k))) w.on_buffer
      ∙ (view_depth_by h order done o v w.on w.bytes w.maximum w.on_buffer one
      ∙ sym (ap (λ k. 1 + cond (is_some (backed h order o)) 1 (deepest h order (lists.map depth done) (written_by h order (slot h order o) k (object_at h o).parts))) e
      ∙ (ap (λ ps. 1 + cond (is_some (backed h order o)) 1 (deepest h order (lists.map depth done) (written_parts h order (slot h order o) ps))) w.part
      ∙ ap (λ t. 1 + cond t 1 (deepest h order (lists.map depth done) (w.on ∷ []))) (backs_own h order o w.on es))))))

  -- what is no view
  pub other_depth : (done : List ℕ) (x : ℕ) → view_in (object_at h x).kind ≡ None → object_depth h order done x ≡ 1 + deepest h order done (written h order x)
  other_depth done x n = ap (λ w. 1 + cond (is_some w) 1 (deepest h order done (written h order x))) (not_backed h order x n)

  object_depth_lem : (done : List Expr) (o : ℕ) → Buffers done o → depth (object_expr h order done o) ≡ object_depth h order (lists.map depth done) o
  object_depth_lem done o g =
      ⊎_elim
      (λ (n : view_in (object_at h o).kind ≡ None).
      kind_depth h order done (length h.objects) o (slot h order o) (object_at h o).kind (object_at h o).parts (formed_at h f o).1 n ∙ sym (other_depth (lists.map depth done) o n))
      (λ (s : (v : ViewContent) × (view_in (object_at h o).kind ≡ Some v)). view_object_depth done o s.0 g (view_in_lem (object_at h o).kind s.0 s.1))
      (cases_option (view_in (object_at h o).kind))

  -- the expression of a buffer
  built_buffer : (b : ℕ) (bytes : List ℕ) (maximum : Option ℕ) → mem b order ≡ true → (object_at h b).kind ≡ buffer bytes maximum → depth (at_place (built h order) (pos h order b)) ≡ 1
  built_buffer b bytes maximum m e =
      ap depth (built_at h f order ad b m)
      ∙ (ap (λ k. depth (kind_expr h order (built h order) b (slot h order b) k (object_at h b).parts)) e ∙ buffer_depth h order b bytes maximum)

  -- before the place of o, all buffers to which it refers are built
  built_buffers : (before after : List ℕ) (o : ℕ) → order ≡ before ++ (o ∷ after) → Buffers (build_all h order [] before) o
  built_buffers before after o e b bytes maximum u k =
      let done = build_all h order [] before in
      let on = edge_buffer h f order ad o b bytes maximum (ap (mem o) e ∙ mem_right o before (o ∷ after) (mem_head o after)) u k in
      let lt = on.before in
      let p = place_split o order before after e (once_before o order before after (ad.once o) e) in
      let n = build_length h order [] before in
      let all : built h order ≡ build_all h order done (o ∷ after) = ap (build_all h order []) e ∙ build_append h order [] before (o ∷ after) in
      let same = ap (λ es. at_place es (pos h order b)) all ∙ build_keeps h order done (o ∷ after) (pos h order b) (omega arith) in
      ap depth (sym same) ∙ built_buffer b bytes maximum on.member k

  -- from a place on
  built_from : (before after : List ℕ) → order ≡ before ++ after → lists.map depth (build_all h order (build_all h order [] before) after) ≡ depths_all h order (lists.map depth (build_all h order [] before)) after
  built_from before [] e = refl
  built_from before (o ∷ after) e =
      let done = build_all h order [] before in
      let x = object_expr h order done o in
      let next : build_all h order [] (before ++ (o ∷ [])) ≡ done ++ (x ∷ []) = build_append h order [] before (o ∷ []) in
      let ih = built_from (before ++ (o ∷ [])) after (e ∙ sym (append_assoc before (o ∷ []) after)) in
      ap (λ es. lists.map depth (build_all h order es after)) (sym next)
      ∙ (ih
      ∙ (ap (λ es. depths_all h order (lists.map depth es) after) next
      ∙ (ap (λ ds. depths_all h order ds after) (map_push depth done x)
      ∙ ap (λ d. depths_all h order (lists.map depth done ++ (d ∷ [])) after) (object_depth_lem done o (built_buffers before after o e)))))

  -- the numbers are the depths of the expressions, place by place
  pub built_depths_lem : lists.map depth (built h order) ≡ built_depths h order
  built_depths_lem = built_from [] order refl

  pub depth_place : (i : ℕ) → depth (get_or (built h order) i (form circular)) ≡ get_or (built_depths h order) i 0
  depth_place i = sym (depth_get_or (built h order) i) ∙ ap (λ ds. get_or ds i 0) built_depths_lem

  pub depth_at : (x : ℕ) → mem x order ≡ true → depth (get_or (built h order) (pos h order x) (form circular)) ≡ get_or (built_depths h order) (pos h order x) 0
  depth_at x m = depth_place (pos h order x)

  -- each number from those of all objects
  pub depths_at : (x : ℕ) → mem x order ≡ true → get_or (built_depths h order) (pos h order x) 0 ≡ object_depth h order (built_depths h order) x
  depths_at x m =
      sym (depth_at x m)
      ∙ (ap depth (built_at h f order ad x m)
      ∙ (object_depth_lem (built h order) x (λ b bytes maximum u e. built_buffer b bytes maximum (ad.closed x b m u) e) ∙ ap (λ ds. object_depth h order ds x) built_depths_lem))

  -- a buffer counts 1
  pub buffer_at_lem : (b : ℕ) (bytes : List ℕ) (maximum : Option ℕ) → mem b order ≡ true → (object_at h b).kind ≡ buffer bytes maximum → get_or (built_depths h order) (pos h order b) 0 ≡ 1
  buffer_at_lem b bytes maximum m e = sym (depth_at b m) ∙ built_buffer b bytes maximum m e

  -- a view counts 2 if its buffer is built with it, else 1
  pub view_at_lem : (x b : ℕ) (k : ViewKind) (offset n : ℕ) (tracking : Bool) → mem x order ≡ true → (object_at h x).kind ≡ view k offset n tracking → (object_at h x).parts ≡ below b ∷ [] →
      get_or (built_depths h order) (pos h order x) 0 ≡ cond (is_some (backed h order x) || not (has_name h order b)) 2 1
  view_at_lem x b k offset n tracking m e p =
      let v = view_formed h f x k offset n tracking e in
      let same = view_group h f x k offset n tracking e b p in
      let one = buffer_at_lem b v.bytes v.maximum
      (ad.closed x b m (ap (λ ps. mem b (edges_of ps)) p ∙ mem_head b []))
      (subst (λ y. (object_at h y).kind ≡ buffer v.bytes v.maximum) same v.on_buffer) in
      depths_at x m
      ∙ (ap (λ z. 1 + cond (is_some (backed h order x)) 1 (deepest h order (built_depths h order) (written_by h order (slot h order x) z (object_at h x).parts))) e
      ∙ (ap (λ ps. 1 + cond (is_some (backed h order x)) 1 (deepest h order (built_depths h order) (written_parts h order (slot h order x) ps))) p
      ∙ (ap (λ z. 1 + cond (is_some (backed h order x)) 1 (max (cond (has_name h order b) 0 z) 0)) one ∙ go (is_some (backed h order x)) (has_name h order b))))
    where
      go : (s t : Bool) → 1 + cond s 1 (max (cond t 0 1) 0) ≡ cond (s || not t) 2 1
      go true t = refl
      go false true = refl
      go false false = refl

  -- a value that is no object or has a name counts nothing
  pub value_depth_lem : (v : Value) → depth (expr_of h order v) ≡ value_depth h order v
  value_depth_lem v = expr_depth h order (built h order) v ∙ ap (λ ds. deepest h order ds (refs v)) built_depths_lem

  pub object_value_depth : (o : ℕ) → depth (expr_of h order (object o)) ≡ cond (has_name h order o) 0 (get_or (built_depths h order) (pos h order o) 0)
  object_value_depth o = object_value h order (built h order) o ∙ ap (λ ds. cond (has_name h order o) 0 (get_or ds (pos h order o) 0)) built_depths_lem

  -- the line at the place of o
  pub line_depth_lem : (o : ℕ) → stmt_depth (const (pos h order o) (get_or (built h order) (pos h order (target h order o)) (form circular))) ≡ line_depth h order o
  line_depth_lem o = depth_place (pos h order (target h order o))

  -- a follow-up
  pub late_depth : (l : Late) → stmt_depth (late_stmt h order l) ≡ task_depth h order l.task
  late_depth l = by_task_lem l.task
    where
      by_task_lem : (t : Task) → stmt_depth (late_stmt h order (record { target = l.target; task = t; ordered = l.ordered })) ≡ task_depth h order t
      by_task_lem (sets k v) = value_depth_lem v
      by_task_lem (puts k v) =
          let a = value_depth_lem k in
          let b = value_depth_lem v in
          let d = deepest-++ h order (built_depths h order) (refs k) (refs v) in
          omega arith
      by_task_lem (adds v) = value_depth_lem v
      by_task_lem (fills k) = refl

  -- the follow-ups that are due at t
  pub due_depths_lem : (t : ℕ) (ds : List (ℕ × Late)) → lists.map stmt_depth (due_at h order t ds) ≡ due_depths h order t ds
  due_depths_lem t [] = refl
  due_depths_lem t (d ∷ ds) = go (eqb t d.0) (due_depths_lem t ds)
    where
      go : (b : Bool) → lists.map stmt_depth (due_at h order t ds) ≡ due_depths h order t ds →
          lists.map stmt_depth (cond b (late_stmt h order d.1 ∷ due_at h order t ds) (due_at h order t ds)) ≡ cond b (task_depth h order d.1.task ∷ due_depths h order t ds) (due_depths h order t ds)
      go true ih = ap (λ n. n ∷ lists.map stmt_depth (due_at h order t ds)) (late_depth d.1) ∙ ap (λ ns. task_depth h order d.1.task ∷ ns) ih
      go false ih = ih

  -- the lines with what is due after each
  pub line_depths_lem : (os : List ℕ) → lists.map stmt_depth (lines_at h order os) ≡ line_depths h order os
  line_depths_lem [] = refl
  line_depths_lem (o ∷ os) = go (has_line h order o) (line_depths_lem os)
    where
      go : (b : Bool) → lists.map stmt_depth (lines_at h order os) ≡ line_depths h order os →
          lists.map stmt_depth (cond b (const (pos h order o) (get_or (built h order) (pos h order (target h order o)) (form circular)) ∷ (due_at h order (pos h order o) (all_due h order order) ++ lines_at h order os)) (lines_at h order os))
          ≡ cond b (line_depth h order o ∷ (due_depths h order (pos h order o) (all_due h order order) ++ line_depths h order os)) (line_depths h order os)
      go true ih =
          ap (λ n. n ∷ lists.map stmt_depth (due_at h order (pos h order o) (all_due h order order) ++ lines_at h order os)) (line_depth_lem o)
          ∙ ap (λ ns. line_depth h order o ∷ ns)
          (map-append stmt_depth (due_at h order (pos h order o) (all_due h order order)) (lines_at h order os)
          ∙ (ap (λ ns. ns ++ lists.map stmt_depth (lines_at h order os)) (due_depths_lem (pos h order o) (all_due h order order))
          ∙ ap (λ ns. due_depths h order (pos h order o) (all_due h order order) ++ ns) ih))
      go false ih = ih

  -- all statements
  pub stmts_depths : (format : Format) → lists.map stmt_depth (stmts h order format) ≡ stmt_depths h order format
  stmts_depths format = go (wrapped h order format)
    where
      -- the lines, and behind them one on the root
      with_last : (s : Stmt) → stmt_depth s ≡ depth (expr_of h order h.root) → lists.map stmt_depth (lines_at h order order ++ (s ∷ [])) ≡ line_depths h order order ++ (value_depth h order h.root ∷ [])
      with_last s e =
          map-append stmt_depth (lines_at h order order) (s ∷ [])
          ∙ (ap (λ ns. ns ++ (stmt_depth s ∷ [])) (line_depths_lem order) ∙ ap (λ n. line_depths h order order ++ (n ∷ [])) (e ∙ value_depth_lem h.root))

      go : (b : Bool) →
          lists.map stmt_depth (cond b (opening ∷ (lines_at h order order ++ (return (expr_of h order h.root) ∷ [])))
          (lines_at h order order ++ (last (braced (expr_of h order h.root)) (expr_of h order h.root) ∷ [])))
          ≡ cond b (0 ∷ (line_depths h order order ++ (value_depth h order h.root ∷ []))) (line_depths h order order ++ (value_depth h order h.root ∷ []))
      go true = ap (λ ns. 0 ∷ ns) (with_last (return (expr_of h order h.root)) refl)
      go false = with_last (last (braced (expr_of h order h.root)) (expr_of h order h.root)) refl

  -- the test on the numbers alone
  pub not_deep_lem : (i : ℕ) (format : Format) → not_deep i (stmts h order format) ≡ none_deep i (stmt_depths h order format)
  not_deep_lem i format = none_deep_lem i (stmts h order format) ∙ ap (none_deep i) (stmts_depths format)
