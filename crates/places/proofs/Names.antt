-- Names in an adequate order: a name is bound no later than its object's place, what has none inlines, its parts are ready, and what a backing view and its buffer have.
use Rattle.std.proofs.Common.{◌≡◌, ℕ, ◌*◌, ◌<◌, ◌≤◌, Bool, true, false, cond, not, ◌&&◌, eqb, ltb, List, [], ◌∷◌, length, is_some, Some, None, Option, sym, refl, ap, ◌∙◌, subst, ⊎_elim, arith, eq-eqb, eqb-true}
use Rattle.std.proofs.lemmas.Bool.{and_parts, or_parts, or_left, or_right, both_ways, not-true, not-false, not_from_false, ltb-false, lt-ltb, cond-true, or_cases}
use Rattle.dump.specs.declared.kinds.ViewKind.{ViewKind}
use Rattle.dump.specs.Heaps.{object, Kind, buffer, view, below, Heap}
use Rattle.dump.specs.Kinds.{width}
use Rattle.planner.specs.Visits.{edges_of, edges, object_at, mem}
use Rattle.planner.specs.Names as names
use Rattle.planner.specs.Names.{first, is_view, ViewContent, BufferContent, view_in, buffer_in, pos, inlines, is_on, spans, covers_buffer, covers, backing, is_same, backed, slot_by, slot, has_name, ready_before}
use Rattle.visits.proofs.Lists.{mem_head}
use Rattle.rebuilds.specs.Adequate.{Adequate}
use Rattle.places.proofs.Firsts.{first_some}
use Rattle.effects.proofs.Options.{none_some, cases_option, is_none, none_if}
use Rattle.places.proofs.Objects.{view_in_lem, buffer_in_lem, buffer_parts, buffer_edges, view_formed, view_edges, view_group}
use Rattle.effects.specs.Bounded.{Bounded}

mem_one : (x y : ℕ) → mem x (y ∷ []) ≡ true → x ≡ y
mem_one x y e = ⊎_elim (λ (a : eqb x y ≡ true). eqb-true x y a) (λ (b : false ≡ true). absurd (both_ways false refl b)) (or_cases (eqb x y) false e)

-- w is a typed array that covers the fixed buffer b
pub record Covered (h : Heap) (b w : ℕ) : Type 0 where
  pub bytes : List ℕ
  pub kind : ViewKind
  pub n : ℕ
  pub buffer_is : (object_at h b).kind ≡ buffer bytes None
  pub view_is : (object_at h w).kind ≡ view kind 0 n false
  pub edge : mem b (edges h w) ≡ true
  pub typed : is_view kind ≡ true
  pub covers : n * width kind ≡ length bytes

module _ (h : Heap) (order : List ℕ) where
  spans_view : (b w : ℕ) (bytes : List ℕ) → (object_at h b).kind ≡ buffer bytes None → mem b (edges h w) ≡ true → (v : Option ViewContent) → view_in (object_at h w).kind ≡ v → spans h order (length bytes) v ≡ true → Covered h b w
  spans_view b w bytes e u None d s = absurd (both_ways false refl s)
  spans_view b w bytes e u (Some v) d s =
      let p = and_parts (is_view v.kind) (eqb v.offset 0 && (not v.tracking && eqb (v.count * width v.kind) (length bytes))) s in
      let q = and_parts (eqb v.offset 0) (not v.tracking && eqb (v.count * width v.kind) (length bytes)) p.1 in
      let r = and_parts (not v.tracking) (eqb (v.count * width v.kind) (length bytes)) q.1 in
      let o = eqb-true v.offset 0 q.0 in
      let t = not-true v.tracking r.0 in
      record {
        bytes = bytes;
        kind = v.kind;
        n = v.count;
        buffer_is = e;
        view_is = view_in_lem (object_at h w).kind v d ∙ (ap (λ x. view v.kind x v.count v.tracking) o ∙ ap (λ x. view v.kind 0 v.count x) t);
        edge = u;
        typed = p.0;
        covers = eqb-true (v.count * width v.kind) (length bytes) r.1;
      }

  pub covers_covered : (b w : ℕ) → covers h order b w ≡ true → Covered h b w
  covers_covered b w e = by_content (buffer_in (object_at h b).kind) refl e
    where
      by_content : (c : Option BufferContent) → buffer_in (object_at h b).kind ≡ c → covers_buffer h order b c w ≡ true → Covered h b w
      by_content None d s = absurd (both_ways false refl s)
      by_content (Some c) d s =
          let p = and_parts (not (is_some c.maximum)) (is_on h order b w && spans h order (length c.bytes) (view_in (object_at h w).kind)) s in
          let q = and_parts (is_on h order b w) (spans h order (length c.bytes) (view_in (object_at h w).kind)) p.1 in
          let r = and_parts (is_some (view_in (object_at h w).kind)) (mem b (edges h w)) q.0 in
          let m = is_none c.maximum (not-true (is_some c.maximum) p.0) in
          spans_view b w c.bytes (buffer_in_lem (object_at h b).kind c d ∙ ap (buffer c.bytes) m) r.1 (view_in (object_at h w).kind) refl q.1

  -- what backs a buffer covers it, and the buffer does not inline
  pub backing_covers : (b w : ℕ) → backing h order b ≡ Some w → (inlines h order b ≡ false) × (mem w order ≡ true) × (covers h order b w ≡ true)
  backing_covers b w e = go (inlines h order b) refl e
    where
      go : (t : Bool) → inlines h order b ≡ t → cond t None (first (covers h order b) order) ≡ Some w → (inlines h order b ≡ false) × (mem w order ≡ true) × (covers h order b w ≡ true)
      go true a d = absurd (none_some d)
      go false a d = let s = first_some (covers h order b) order w d in (a, s.0, s.1)

  -- the buffer that is backed is the target of an edge
  pub backed_edge : (w b : ℕ) → backed h order w ≡ Some b → (mem b (edges h w) ≡ true) × (backing h order b ≡ Some w)
  backed_edge w b e =
      let s = first_some (λ x. is_same h order (backing h order x) w) (edges h w) b e in
      (s.0, same (backing h order b) s.1)
    where
      same : (o : Option ℕ) → is_same h order o w ≡ true → o ≡ Some w
      same None d = absurd (both_ways false refl d)
      same (Some y) d = ap Some (sym (eqb-true w y d))

  pub backing_covered : (b w : ℕ) → backing h order b ≡ Some w → Covered h b w
  backing_covered b w e = covers_covered b w (backing_covers b w e).2

  -- no view: it backs no buffer
  pub not_backed : (x : ℕ) → view_in (object_at h x).kind ≡ None → backed h order x ≡ None
  not_backed x n =
      none_if (backed h order x)
      (λ b e. let c = backing_covered b x (backed_edge x b e).1 in none_some (sym n ∙ ap view_in c.view_is))

  -- no fixed buffer: it has no backing view
  pub not_backing : (x : ℕ) → ((bytes : List ℕ) → (object_at h x).kind ≡ buffer bytes None → ⊥) → backing h order x ≡ None
  not_backing x n = none_if (backing h order x) (λ w e. let c = backing_covered x w e in n c.bytes c.buffer_is)

  -- no buffer at all
  pub no_buffer : (x : ℕ) → buffer_in (object_at h x).kind ≡ None → backing h order x ≡ None
  no_buffer x n = not_backing x (λ bytes e. none_some (sym n ∙ ap buffer_in e))

  -- a resizable buffer
  pub resizable_not_backing : (x : ℕ) (bytes : List ℕ) (m : ℕ) → (object_at h x).kind ≡ buffer bytes (Some m) → backing h order x ≡ None
  resizable_not_backing x bytes m e = not_backing x (λ bs d. none_some (ap maximum_of (sym d ∙ e)))
    where
      maximum_by : Option BufferContent → Option ℕ
      maximum_by None = None
      maximum_by (Some c) = c.maximum

      maximum_of : Kind → Option ℕ
      maximum_of k = maximum_by (buffer_in k)

  -- what backs nothing has its name bound at its place
  pub own_slot : (x : ℕ) → backed h order x ≡ None → slot h order x ≡ pos h order x
  own_slot x e = ap (λ o. slot_by h order o x) e

  pub unnamed : (x : ℕ) → has_name h order x ≡ false → (inlines h order x ≡ true) × (backed h order x ≡ None)
  unnamed x e =
      let p = or_parts (not (inlines h order x)) (is_some (backed h order x)) e in
      (not-false (inlines h order x) p.0, is_none (backed h order x) p.1)

  pub unnamed_slot : (x : ℕ) → has_name h order x ≡ false → slot h order x ≡ pos h order x
  unnamed_slot x e = own_slot x (unnamed x e).1

  -- what does not inline has a name, and what backs a buffer
  pub named_if : (x : ℕ) → inlines h order x ≡ false → has_name h order x ≡ true
  named_if x e = or_left (not (inlines h order x)) (is_some (backed h order x)) (not_from_false (inlines h order x) e)

  pub backed_named : (x b : ℕ) → backed h order x ≡ Some b → has_name h order x ≡ true
  backed_named x b e = or_right (not (inlines h order x)) (is_some (backed h order x)) (ap is_some e)

  -- an object that is not ready has a name that is not bound yet
  pub unready : (t j : ℕ) → ready_before h order t (object j) ≡ false → (has_name h order j ≡ true) × (t ≤ slot h order j)
  unready t j e =
      let p = or_parts (not (has_name h order j)) (ltb (slot h order j) t) e in
      (not-false (has_name h order j) p.0, ltb-false (slot h order j) t p.1)

module _ (h : Heap) (f : Bounded h) (order : List ℕ) (ad : Adequate h order) where
  -- the buffer of a view comes before it, and its name is bound at its place
  pub record OnBuffer (x b : ℕ) : Type 0 where
    pub member : mem b order ≡ true
    pub before : pos h order b < pos h order x
    pub slot_buffer : slot h order b ≡ pos h order b
    pub unbacked : backed h order b ≡ None

  -- an edge to a buffer
  pub edge_buffer : (x b : ℕ) (bytes : List ℕ) (maximum : Option ℕ) → mem x order ≡ true → mem b (edges h x) ≡ true → (object_at h b).kind ≡ buffer bytes maximum → OnBuffer x b
  edge_buffer x b bytes maximum m u e =
      let n = not_backed h order b (ap view_in e) in
      record {
        member = ad.closed x b m u;
        before = ad.leaf x b m u (buffer_edges h f b bytes maximum e);
        slot_buffer = own_slot h order b n;
        unbacked = n;
      }

  pub on_buffer : (x b : ℕ) (k : ViewKind) (offset n : ℕ) (tracking : Bool) → mem x order ≡ true → (object_at h x).kind ≡ view k offset n tracking → (object_at h x).parts ≡ below b ∷ [] → OnBuffer x b
  on_buffer x b k offset n tracking m e p =
      let v = view_formed h f x k offset n tracking e in
      let same = view_group h f x k offset n tracking e b p in
      edge_buffer x b v.bytes v.maximum m (ap (λ ps. mem b (edges_of ps)) p ∙ mem_head b [])
      (subst (λ y. (object_at h y).kind ≡ buffer v.bytes v.maximum) same v.on_buffer)

  -- the same of any edge of a view
  pub view_edge : (x b : ℕ) → mem x order ≡ true → is_some (view_in (object_at h x).kind) ≡ true → mem b (edges h x) ≡ true → OnBuffer x b
  view_edge x b m i u =
      ⊎_elim (λ (e : view_in (object_at h x).kind ≡ None). absurd (both_ways false refl (sym (ap is_some e) ∙ i)))
      (λ (s : (v : ViewContent) × (view_in (object_at h x).kind ≡ Some v)).
      let v = s.0 in
      let k = view_in_lem (object_at h x).kind v s.1 in
      let w = view_formed h f x v.kind v.offset v.count v.tracking k in
      let same = mem_one b w.on (subst (λ es. mem b es ≡ true) (view_edges h f x v.kind v.offset v.count v.tracking k) u) in
      edge_buffer x b w.bytes w.maximum m u (ap (λ y. (object_at h y).kind) same ∙ w.on_buffer)) (cases_option (view_in (object_at h x).kind))

  -- the buffer b with its backing view w
  pub record Backs (b w : ℕ) : Type 0 where
    pub bytes : List ℕ
    pub kind : ViewKind
    pub n : ℕ
    pub buffer_is : (object_at h b).kind ≡ buffer bytes None
    pub buffer_parts : (object_at h b).parts ≡ []
    pub view_is : (object_at h w).kind ≡ view kind 0 n false
    pub view_parts : (object_at h w).parts ≡ below b ∷ []
    pub typed : is_view kind ≡ true
    pub covers : n * width kind ≡ length bytes
    pub member : mem w order ≡ true
    pub buffer_member : mem b order ≡ true
    pub before : pos h order b < pos h order w
    pub backing : names.backing h order b ≡ Some w
    pub backed : names.backed h order w ≡ Some b
    pub named_view : has_name h order w ≡ true
    pub named_buffer : has_name h order b ≡ true
    pub slot_view : slot h order w ≡ pos h order b
    pub slot_buffer : slot h order b ≡ pos h order b
    pub unbacked : names.backed h order b ≡ None
    pub not_inlined : inlines h order b ≡ false
    pub apart : b ≡ w → ⊥

  pub backs : (b w : ℕ) → mem b order ≡ true → backing h order b ≡ Some w → Backs b w
  backs b w m e =
      let c = backing_covered h order b w e in
      let d = backing_covers h order b w e in
      let v = view_formed h f w c.kind 0 c.n false c.view_is in
      let es = view_edges h f w c.kind 0 c.n false c.view_is in
      let same : v.on ≡ b = sym (mem_one b v.on (subst (λ xs. mem b xs ≡ true) es c.edge)) in
      let on = edge_buffer w b c.bytes None d.1 c.edge c.buffer_is in
      let bk : backed h order w ≡ Some b = ap (first (λ x. is_same h order (backing h order x) w)) (es ∙ ap (λ x. x ∷ []) same) ∙ cond-true (is_same h order (backing h order b) w) (Some b) None (ap (λ o. is_same h order o w) e ∙ eq-eqb w w refl) in
      record {
        bytes = c.bytes;
        kind = c.kind;
        n = c.n;
        buffer_is = c.buffer_is;
        buffer_parts = buffer_parts h f b c.bytes None c.buffer_is;
        view_is = c.view_is;
        view_parts = v.part ∙ ap (λ x. below x ∷ []) same;
        typed = c.typed;
        covers = c.covers;
        member = d.1;
        buffer_member = m;
        before = on.before;
        backing = e;
        backed = bk;
        named_view = backed_named h order w b bk;
        named_buffer = named_if h order b d.0;
        slot_view = ap (λ o. slot_by h order o w) bk;
        slot_buffer = on.slot_buffer;
        unbacked = on.unbacked;
        not_inlined = d.0;
        apart = λ q. none_some (ap view_in (sym c.buffer_is ∙ (ap (λ x. (object_at h x).kind) q ∙ c.view_is)));
      }

  pub backs_of : (b w : ℕ) → mem w order ≡ true → backed h order w ≡ Some b → Backs b w
  backs_of b w m e =
      let d = backed_edge h order w b e in
      backs b w (ad.closed w b m d.0) d.1

  pub slot_le : (x : ℕ) → mem x order ≡ true → slot h order x ≤ pos h order x
  slot_le x m =
      ⊎_elim (λ (n : backed h order x ≡ None). let s = own_slot h order x n in omega arith)
      (λ (s : (b : ℕ) × (backed h order x ≡ Some b)). let k = backs_of s.0 x m s.1 in let a = k.before in let b = k.slot_view in omega arith)
      (cases_option (backed h order x))

  -- what has no name comes before what refers to it
  pub child_before : (x j : ℕ) → mem x order ≡ true → mem j (edges h x) ≡ true → has_name h order j ≡ false → pos h order j < pos h order x
  child_before x j m u n = ad.ahead x j (unnamed h order j n).0 m u

  -- what an inlined object refers to is ready before it
  pub inlined_ready : (x j : ℕ) → mem x order ≡ true → inlines h order x ≡ true → mem j (edges h x) ≡ true → ready_before h order (pos h order x) (object j) ≡ true
  inlined_ready x j m i u =
      let a = ad.back x j i u in
      let b = slot_le j (ad.closed x j m u) in
      or_right (not (has_name h order j)) (ltb (slot h order j) (pos h order x)) (lt-ltb (slot h order j) (pos h order x) (omega arith))

  pub child_ready : (x j : ℕ) → mem x order ≡ true → has_name h order x ≡ false → mem j (edges h x) ≡ true → ready_before h order (slot h order x) (object j) ≡ true
  child_ready x j m n u = subst (λ t. ready_before h order t (object j) ≡ true) (sym (unnamed_slot h order x n)) (inlined_ready x j m (unnamed h order x n).0 u)
