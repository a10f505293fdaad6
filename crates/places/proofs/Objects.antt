-- Every object of a formed heap is formed: a view has one edge, to its buffer, and an object of a kind without references has none.
use Rattle.std.proofs.Common.{◌≡◌, ℕ, Bool, true, false, List, [], ◌∷◌, length, Some, Option, sym, refl, ap, ◌∙◌, subst, arith}
use Rattle.std.proofs.lemmas.Bool.{both_ways}
use Rattle.dump.specs.declared.kinds.ViewKind.{ViewKind}
use Rattle.dump.specs.Heaps.{Kind, boolean_object, number_object, bigint_object, string_object, regexp, date, plain, sparse, dense, map, set, buffer, view, error, Part, below, Heap}
use Rattle.formed.specs.Formed.{ViewFormed, KindFormed, PartsFormed}
use Rattle.planner.specs.Visits.{edges_of, edges, object_at}
use Rattle.planner.specs.Names.{ViewContent, BufferContent, view_in, buffer_in}
use Rattle.effects.specs.Bounded.{Bounded}
use Rattle.effects.proofs.Objects.{formed_at}

-- a kind without references
abbrev pub is_bare : Kind → Bool
is_bare (boolean_object v) = true
is_bare (number_object bits) = true
is_bare (bigint_object t) = true
is_bare (string_object t) = true
is_bare (regexp t flags) = true
is_bare (date time) = true
is_bare plain = false
is_bare (sparse n) = false
is_bare (dense n) = false
is_bare map = false
is_bare set = false
is_bare (buffer bytes maximum) = true
is_bare (view k offset n tracking) = false
is_bare (error n message stack) = false

-- the kind of what has the content of a view
pub view_in_lem : (k : Kind) (v : ViewContent) → view_in k ≡ Some v → k ≡ view v.kind v.offset v.count v.tracking
view_in_lem (boolean_object b) v e = absurd (grind arith)
view_in_lem (number_object bits) v e = absurd (grind arith)
view_in_lem (bigint_object t) v e = absurd (grind arith)
view_in_lem (string_object t) v e = absurd (grind arith)
view_in_lem (regexp t flags) v e = absurd (grind arith)
view_in_lem (date time) v e = absurd (grind arith)
view_in_lem plain v e = absurd (grind arith)
view_in_lem (sparse n) v e = absurd (grind arith)
view_in_lem (dense n) v e = absurd (grind arith)
view_in_lem map v e = absurd (grind arith)
view_in_lem set v e = absurd (grind arith)
view_in_lem (buffer bytes maximum) v e = absurd (grind arith)
view_in_lem (view k offset n tracking) v e = let s : record { kind = k; offset = offset; count = n; tracking = tracking } ≡ v = cc in ap (λ w. view w.kind w.offset w.count w.tracking) s
view_in_lem (error n message stack) v e = absurd (grind arith)

-- and of what has that of a buffer
pub buffer_in_lem : (k : Kind) (c : BufferContent) → buffer_in k ≡ Some c → k ≡ buffer c.bytes c.maximum
buffer_in_lem (boolean_object b) c e = absurd (grind arith)
buffer_in_lem (number_object bits) c e = absurd (grind arith)
buffer_in_lem (bigint_object t) c e = absurd (grind arith)
buffer_in_lem (string_object t) c e = absurd (grind arith)
buffer_in_lem (regexp t flags) c e = absurd (grind arith)
buffer_in_lem (date time) c e = absurd (grind arith)
buffer_in_lem plain c e = absurd (grind arith)
buffer_in_lem (sparse n) c e = absurd (grind arith)
buffer_in_lem (dense n) c e = absurd (grind arith)
buffer_in_lem map c e = absurd (grind arith)
buffer_in_lem set c e = absurd (grind arith)
buffer_in_lem (buffer bytes maximum) c e = let s : record { bytes = bytes; maximum = maximum } ≡ c = cc in ap (λ w. buffer w.bytes w.maximum) s
buffer_in_lem (view k offset n tracking) c e = absurd (grind arith)
buffer_in_lem (error n message stack) c e = absurd (grind arith)

bare_none : (h : Heap) (n : ℕ) (k : Kind) (ps : List Part) → PartsFormed h n k ps → is_bare k ≡ true → ps ≡ []
bare_none h n (boolean_object v) ps f e = f
bare_none h n (number_object bits) ps f e = f
bare_none h n (bigint_object t) ps f e = f
bare_none h n (string_object t) ps f e = f
bare_none h n (regexp t flags) ps f e = f
bare_none h n (date time) ps f e = f
bare_none h n plain ps f e = absurd (both_ways false refl e)
bare_none h n (sparse limit) ps f e = absurd (both_ways false refl e)
bare_none h n (dense count) ps f e = absurd (both_ways false refl e)
bare_none h n map ps f e = absurd (both_ways false refl e)
bare_none h n set ps f e = absurd (both_ways false refl e)
bare_none h n (buffer bytes maximum) ps f e = f
bare_none h n (view k offset count tracking) ps f e = absurd (both_ways false refl e)
bare_none h n (error m message stack) ps f e = absurd (both_ways false refl e)

module _ (h : Heap) (f : Bounded h) where
  -- by the kind
  pub kind_formed : (o : ℕ) (k : Kind) → (object_at h o).kind ≡ k → KindFormed k
  kind_formed o k e = subst KindFormed e (formed_at h f o).0

  pub parts_formed : (o : ℕ) (k : Kind) → (object_at h o).kind ≡ k → PartsFormed h (length h.objects) k (object_at h o).parts
  parts_formed o k e = subst (λ z. PartsFormed h (length h.objects) z (object_at h o).parts) e (formed_at h f o).1

  -- a kind without references has no parts
  pub bare_parts : (x : ℕ) → is_bare (object_at h x).kind ≡ true → (object_at h x).parts ≡ []
  bare_parts x e = bare_none h (length h.objects) (object_at h x).kind (object_at h x).parts (formed_at h f x).1 e

  pub bare_edges : (x : ℕ) → is_bare (object_at h x).kind ≡ true → edges h x ≡ []
  bare_edges x e = ap edges_of (bare_parts x e)

  -- so a buffer has none
  pub buffer_parts : (b : ℕ) (bytes : List ℕ) (maximum : Option ℕ) → (object_at h b).kind ≡ buffer bytes maximum → (object_at h b).parts ≡ []
  buffer_parts b bytes maximum e = parts_formed b (buffer bytes maximum) e

  pub buffer_edges : (b : ℕ) (bytes : List ℕ) (maximum : Option ℕ) → (object_at h b).kind ≡ buffer bytes maximum → edges h b ≡ []
  buffer_edges b bytes maximum e = ap edges_of (buffer_parts b bytes maximum e)

  module _ (x : ℕ) (k : ViewKind) (offset n : ℕ) (tracking : Bool) (e : (object_at h x).kind ≡ view k offset n tracking) where
    pub view_formed : ViewFormed h k offset n tracking (object_at h x).parts
    view_formed = parts_formed x (view k offset n tracking) e

    -- the one edge of a view goes to its buffer
    pub view_edges : edges h x ≡ view_formed.on ∷ []
    view_edges = ap edges_of view_formed.part

    pub view_buffer : (object_at h view_formed.on).kind ≡ buffer view_formed.bytes view_formed.maximum
    view_buffer = view_formed.on_buffer

    pub view_buffer_edges : edges h view_formed.on ≡ []
    view_buffer_edges = buffer_edges view_formed.on view_formed.bytes view_formed.maximum view_buffer

    -- whatever buffer its parts say
    pub view_group : (b : ℕ) → (object_at h x).parts ≡ below b ∷ [] → view_formed.on ≡ b
    view_group b p = let q = sym view_formed.part ∙ p in cc
