-- The visit from a root ends; its order has no object twice, the root last, is closed and has just what is reachable; an edge that goes to no earlier object goes to one that is reached twice.
use Rattle.std.proofs.Common.{◌≡◌, ℕ, zero, suc, ◌+◌, ◌<◌, ◌≤◌, Bool, true, false, cond, ◌||◌, eqb, ◌⊎◌, List, [], ◌∷◌, ◌++◌, length, get_or, sym, refl, ap, ◌∙◌, subst, inl, inr, ⊎_elim, append_assoc, append-nil, add-zero, add-suc, suc-add, zero-add, arith, eq-eqb, ne_eqb, eqb-true}
use Rattle.std.proofs.lemmas.Bool.{cases_eq, or_parts, or_cases, both_ways, cond_both, or_right, or_left}
use Rattle.dump.specs.Heaps.{Object, nobody, Heap}
use Rattle.planner.specs.Visits.{edges_of, edges, mem, Frame, at, Visiting, open_objects, visit_frames, visit_run, fuel, visit}
use Rattle.planner.specs.Names.{count}
use Rattle.visits.specs.Stands.{Reach, at_root, by_edge, Last}
use Rattle.visits.proofs.Lists.{count-++, mem_snoc, mem_left, mem_right, mem_head, count_mem, count_none, split_at, nil_app, snoc_split}

-- each edge goes to an object of the heap
abbrev pub InRange : Heap → Type 0
InRange h = (i j : ℕ) → mem j (edges h i) ≡ true → j < length h.objects

-- an object other than i that is seen has an edge to j
pub record Other (h : Heap) (sn : ℕ → Bool) (i j : ℕ) : Type 0 where
  pub p : ℕ
  pub apart : p ≡ i → ⊥
  pub seen_p : sn p ≡ true
  pub edge : mem j (edges h p) ≡ true

-- j is above i, and is reached twice, once from i: it is the root, or another object has an edge to it
abbrev pub Twice : Heap → ℕ → (ℕ → Bool) → ℕ → ℕ → Type 0
Twice h r sn i j = (sn j ≡ true) × Reach h j i × ((j ≡ r) ⊎ Other h sn i j)

abbrev pub Fine : Heap → ℕ → (ℕ → Bool) → List ℕ → ℕ → List ℕ → Type 0
Fine h r sn before i es = (j : ℕ) → mem j es ≡ true → (mem j before ≡ true) ⊎ Twice h r sn i j

pub data Ordered (h : Heap) (r : ℕ) (sn : ℕ → Bool) : List ℕ → Type 0 where
  o_nil : Ordered h r sn []
  o_snoc : {before : List ℕ} (i : ℕ) → Fine h r sn before i (edges h i) → Ordered h r sn before → Ordered h r sn (before ++ (i ∷ []))

-- the frame below has the edge to i as its next one
abbrev pub Under : ℕ → ℕ → List Frame → Type 0
Under r i [] = i ≡ r
Under r i (at p [] ∷ fs) = ⊥
Under r i (at p (j ∷ es) ∷ fs) = i ≡ j

pub record FrameOk (h : Heap) (r : ℕ) (sn : ℕ → Bool) (post : List ℕ) (i : ℕ) (rest : List ℕ) : Type 0 where
  pub passed : List ℕ
  pub whole : edges h i ≡ passed ++ rest
  pub fine : Fine h r sn post i passed

pub data Frames (h : Heap) (r : ℕ) (sn : ℕ → Bool) (post : List ℕ) : List Frame → Type 0 where
  fr_nil : Frames h r sn post []
  fr_cons : {i : ℕ} {rest : List ℕ} {fs : List Frame} → FrameOk h r sn post i rest → Under r i fs → Frames h r sn post fs → Frames h r sn post (at i rest ∷ fs)

abbrev pub seen : List Frame → List ℕ → ℕ → Bool
seen fs post x = mem x post || mem x (open_objects fs)

-- once no object is open, the root is the last
abbrev pub Closes : ℕ → List Frame → List ℕ → Type 0
Closes r [] post = Last r post
Closes r (f ∷ fs) post = Unit {0}

pub record VInv (h : Heap) (r : ℕ) (fs : List Frame) (post : List ℕ) : Type 0 where
  pub nodup : (y : ℕ) → count y (open_objects fs) + count y post ≤ 1
  pub inside : (y : ℕ) → seen fs post y ≡ true → y < length h.objects
  pub frames : Frames h r (seen fs post) post fs
  pub ordered : Ordered h r (seen fs post) post
  pub root : seen fs post r ≡ true
  pub reach : (y : ℕ) → seen fs post y ≡ true → Reach h r y
  pub closes : Closes r fs post

-- all of it is kept as more is seen and more is done
module _ (h : Heap) (r : ℕ) (sn sn' : ℕ → Bool) (f : (x : ℕ) → sn x ≡ true → sn' x ≡ true) where
  twice_more : (i j : ℕ) → Twice h r sn i j → Twice h r sn' i j
  twice_more i j t = (f j t.0, t.1, ⊎_elim (λ e. inl e) (λ (o : Other h sn i j). inr (record { p = o.p; apart = o.apart; seen_p = f o.p o.seen_p; edge = o.edge })) t.2)

  fine_more : (before before' : List ℕ) → ((x : ℕ) → mem x before ≡ true → mem x before' ≡ true) → (i : ℕ) (es : List ℕ) → Fine h r sn before i es → Fine h r sn' before' i es
  fine_more before before' g i es t j u = ⊎_elim (λ (a : mem j before ≡ true). inl (g j a)) (λ (b : Twice h r sn i j). inr (twice_more i j b)) (t j u)

  ordered_more : {post : List ℕ} → Ordered h r sn post → Ordered h r sn' post
  ordered_more o_nil = o_nil
  ordered_more (o_snoc {before = b} i t o) = o_snoc i (fine_more b b (λ x e. e) i (edges h i) t) (ordered_more o)

  frames_more : (post post' : List ℕ) → ((x : ℕ) → mem x post ≡ true → mem x post' ≡ true) → {fs : List Frame} → Frames h r sn post fs → Frames h r sn' post' fs
  frames_more post post' g fr_nil = fr_nil
  frames_more post post' g (fr_cons {i = i} ok u t) = fr_cons (record { passed = ok.passed; whole = ok.whole; fine = fine_more post post' g i ok.passed ok.fine }) u (frames_more post post' g t)

-- an open object is the root, or the next edge of an open object below it goes to it
pub record Below (h : Heap) (fs : List Frame) (j : ℕ) : Type 0 where
  pub p : ℕ
  pub p_in : mem p (open_objects fs) ≡ true
  pub edge : mem j (edges h p) ≡ true

below_more : (h : Heap) (f : Frame) (fs : List Frame) (j : ℕ) → Below h fs j → Below h (f ∷ fs) j
below_more h (at x es) fs j b = record { p = b.p; p_in = or_right (eqb b.p x) (mem b.p (open_objects fs)) b.p_in; edge = b.edge }

module _ (h : Heap) (r : ℕ) (sn : ℕ → Bool) (post : List ℕ) where
  parent : (i : ℕ) (fs : List Frame) → Under r i fs → Frames h r sn post fs → (i ≡ r) ⊎ Below h fs i
  parent i [] u t = inl u
  parent i (at p [] ∷ fs) u t = elim u [ ]
  parent i (at p (j ∷ es) ∷ fs) u (fr_cons ok w t) = inr (record {
    p = p;
    p_in = mem_head p (open_objects fs);
    edge = ap (mem i) ok.whole ∙ mem_right i ok.passed (j ∷ es) (or_left (eqb i j) (mem i es) (eq-eqb i j u));
  })

  deeper : (j : ℕ) {fs : List Frame} → Frames h r sn post fs → mem j (open_objects fs) ≡ true → (j ≡ r) ⊎ Below h fs j
  deeper j fr_nil e = absurd (both_ways false refl e)
  deeper j (fr_cons {i = i} {rest = rest} {fs = fs} ok u t) e =
      ⊎_elim
      (λ (a : eqb j i ≡ true). ⊎_elim (λ x. inl x) (λ (b : Below h fs j). inr (below_more h (at i rest) fs j b)) (subst (λ z. (z ≡ r) ⊎ Below h fs z) (sym (eqb-true j i a)) (parent i fs u t)))
      (λ (b : mem j (open_objects fs) ≡ true). ⊎_elim (λ x. inl x) (λ (c : Below h fs j). inr (below_more h (at i rest) fs j c)) (deeper j t b))
      (or_cases (eqb j i) (mem j (open_objects fs)) e)

  below : (j i : ℕ) (fs : List Frame) → Under r i fs → Frames h r sn post fs → mem j (i ∷ open_objects fs) ≡ true → (j ≡ r) ⊎ Below h fs j
  below j i fs u t e =
      ⊎_elim (λ (a : eqb j i ≡ true). subst (λ z. (z ≡ r) ⊎ Below h fs z) (sym (eqb-true j i a)) (parent i fs u t)) (λ (b : mem j (open_objects fs) ≡ true). deeper j t b) (or_cases (eqb j i) (mem j (open_objects fs)) e)

  -- each open object reaches those above it
  climbs : (j i : ℕ) (fs : List Frame) → Under r i fs → Frames h r sn post fs → mem j (i ∷ open_objects fs) ≡ true → Reach h j i
  climbs j i [] u t e = ⊎_elim (λ (a : eqb j i ≡ true). subst (λ z. Reach h j z) (eqb-true j i a) at_root) (λ b. absurd (both_ways false refl b)) (or_cases (eqb j i) false e)
  climbs j i (at p [] ∷ fs) u t e = elim u [ ]
  climbs j i (at p (k ∷ es) ∷ fs) u (fr_cons ok w t) e =
      ⊎_elim
      (λ (a : eqb j i ≡ true). subst (λ z. Reach h j z) (eqb-true j i a) at_root)
      (λ (b : mem j (p ∷ open_objects fs) ≡ true). by_edge (climbs j p fs w t b) (ap (mem i) ok.whole ∙ mem_right i ok.passed (k ∷ es) (or_left (eqb i k) (mem i es) (eq-eqb i k u))))
      (or_cases (eqb j i) (mem j (p ∷ open_objects fs)) e)

module _ (h : Heap) (r : ℕ) (wf : InRange h) where
  abbrev Inv : Visiting → Type 0
  Inv v = VInv h r v.stack v.post

  pop_closes : (i : ℕ) (fs : List Frame) (post : List ℕ) → Under r i fs → Closes r fs (post ++ (i ∷ []))
  pop_closes i [] post u = record { before = post; whole = ap (λ z. post ++ (z ∷ [])) u }
  pop_closes i (f ∷ fs) post u = tt

  pop : (i : ℕ) (fs : List Frame) (post : List ℕ) → VInv h r (at i [] ∷ fs) post → VInv h r fs (post ++ (i ∷ []))
  pop i fs post v = go v.frames
    where
      to : (x : ℕ) → seen (at i [] ∷ fs) post x ≡ true → seen fs (post ++ (i ∷ [])) x ≡ true
      to x e = let m = mem_snoc x i post in grind arith

      back : (x : ℕ) → seen fs (post ++ (i ∷ [])) x ≡ true → seen (at i [] ∷ fs) post x ≡ true
      back x e = let m = mem_snoc x i post in grind arith

      old : (x : ℕ) → mem x post ≡ true → mem x (post ++ (i ∷ [])) ≡ true
      old x e = mem_left x post (i ∷ []) e

      go : Frames h r (seen (at i [] ∷ fs) post) post (at i [] ∷ fs) → VInv h r fs (post ++ (i ∷ []))
      go (fr_cons ok u t) = record {
        nodup = λ y. let n = v.nodup y in omega (arith, count-++ y post (i ∷ []));
        inside = λ y e. v.inside y (back y e);
        frames = frames_more h r (seen (at i [] ∷ fs) post) (seen fs (post ++ (i ∷ []))) to post (post ++ (i ∷ [])) old t;
        ordered = o_snoc i (subst (λ z. Fine h r (seen fs (post ++ (i ∷ []))) post i z) (sym (ok.whole ∙ append-nil ok.passed)) (fine_more h r (seen (at i [] ∷ fs) post) (seen fs (post ++ (i ∷ []))) to post post (λ x e. e) i ok.passed ok.fine)) (ordered_more h r (seen (at i [] ∷ fs) post) (seen fs (post ++ (i ∷ []))) to v.ordered);
        root = to r v.root;
        reach = λ y e. v.reach y (back y e);
        closes = pop_closes i fs post u;
      }

  pass : (i j : ℕ) (es : List ℕ) (fs : List Frame) (post : List ℕ) (v : VInv h r (at i (j ∷ es) ∷ fs) post) → (mem j post ≡ true) ⊎ Twice h r (seen (at i es ∷ fs) post) i j → VInv h r (at i es ∷ fs) post
  pass i j es fs post v f = go v.frames
    where
      go : Frames h r (seen (at i es ∷ fs) post) post (at i (j ∷ es) ∷ fs) → VInv h r (at i es ∷ fs) post
      go (fr_cons ok u t) = record {
        nodup = v.nodup;
        inside = v.inside;
        frames = fr_cons (record {
          passed = ok.passed ++ (j ∷ []);
          whole = ok.whole ∙ sym (append_assoc ok.passed (j ∷ []) es);
          fine = λ m x. ⊎_elim
              (λ (a : mem m ok.passed ≡ true). ok.fine m a)
              (λ (b : eqb m j ≡ true). subst (λ z. (mem z post ≡ true) ⊎ Twice h r (seen (at i es ∷ fs) post) i z) (sym (eqb-true m j b)) f)
              (or_cases (mem m ok.passed) (eqb m j) (sym (mem_snoc m j ok.passed) ∙ x));
        }) u t;
        ordered = v.ordered;
        root = v.root;
        reach = v.reach;
        closes = tt;
      }

  pub push : (i j : ℕ) (es : List ℕ) (fs : List Frame) (post : List ℕ) → VInv h r (at i (j ∷ es) ∷ fs) post → (mem j post || mem j (i ∷ open_objects fs)) ≡ false → VInv h r (at j (edges h j) ∷ at i (j ∷ es) ∷ fs) post
  push i j es fs post v n = go v.frames
    where
      sn : ℕ → Bool
      sn = seen (at i (j ∷ es) ∷ fs) post

      sn' : ℕ → Bool
      sn' = seen (at j (edges h j) ∷ at i (j ∷ es) ∷ fs) post

      to : (x : ℕ) → sn x ≡ true → sn' x ≡ true
      to x e = grind arith

      back : (x : ℕ) → sn' x ≡ true → (x ≡ j) ⊎ (sn x ≡ true)
      back x e = ⊎_elim (λ (a : x ≡ j). inl a) (λ (b : x ≡ j → ⊥). let q = ne_eqb x j b in inr (grind arith)) (cases_eq x j)

      go : Frames h r sn post (at i (j ∷ es) ∷ fs) → VInv h r (at j (edges h j) ∷ at i (j ∷ es) ∷ fs) post
      go (fr_cons ok u t) =
          let edge : mem j (edges h i) ≡ true = ap (mem j) ok.whole ∙ mem_right j ok.passed (j ∷ es) (mem_head j es) in
          let lt = wf i j edge in
          let mine : sn i ≡ true = let q = eq-eqb i i refl in grind arith in
          let parts = or_parts (mem j post) (mem j (i ∷ open_objects fs)) n in
          let z1 = count_none j post parts.0 in
          let z2 = count_none j (i ∷ open_objects fs) parts.1 in
          record {
            nodup = λ y. ⊎_elim (λ (a : y ≡ j). rw a (let q = eq-eqb j j refl in grind arith)) (λ (b : y ≡ j → ⊥). let q = ne_eqb y j b in let o = v.nodup y in grind arith) (cases_eq y j);
            inside = λ y e. ⊎_elim (λ (a : y ≡ j). rw a lt) (λ (b : sn y ≡ true). v.inside y b) (back y e);
            frames = fr_cons (record { passed = []; whole = refl; fine = λ m x. absurd (both_ways false refl x) }) refl (frames_more h r sn sn' to post post (λ x e. e) v.frames);
            ordered = ordered_more h r sn sn' to v.ordered;
            root = to r v.root;
            reach = λ y e. ⊎_elim (λ (a : y ≡ j). rw a (by_edge (v.reach i mine) edge)) (λ (b : sn y ≡ true). v.reach y b) (back y e);
            closes = tt;
          }

  -- an edge that is passed over goes to an object that is done, or to an open one, which is reached twice
  passed_over : (i j : ℕ) (es : List ℕ) (fs : List Frame) (post : List ℕ) → VInv h r (at i (j ∷ es) ∷ fs) post → (mem j post || mem j (i ∷ open_objects fs)) ≡ true → (mem j post ≡ true) ⊎ Twice h r (seen (at i es ∷ fs) post) i j
  passed_over i j es fs post v e = ⊎_elim (λ a. inl a) (λ (b : mem j (i ∷ open_objects fs) ≡ true). inr (e, up v.frames b, go v.frames b)) (or_cases (mem j post) (mem j (i ∷ open_objects fs)) e)
    where
      sn : ℕ → Bool
      sn = seen (at i es ∷ fs) post

      other : Below h fs j → Other h sn i j
      other b = record {
        p = b.p;
        apart = λ d. let o = v.nodup i in let q = count_mem i (open_objects fs) (subst (λ z. mem z (open_objects fs) ≡ true) d b.p_in) in let y = eq-eqb i i refl in grind arith;
        seen_p = or_right (mem b.p post) (mem b.p (i ∷ open_objects fs)) (or_right (eqb b.p i) (mem b.p (open_objects fs)) b.p_in);
        edge = b.edge;
      }

      go : Frames h r sn post (at i (j ∷ es) ∷ fs) → mem j (i ∷ open_objects fs) ≡ true → (j ≡ r) ⊎ Other h sn i j
      go (fr_cons ok u t) b = ⊎_elim (λ x. inl x) (λ (y : Below h fs j). inr (other y)) (below h r sn post j i fs u t b)

      up : Frames h r sn post (at i (j ∷ es) ∷ fs) → mem j (i ∷ open_objects fs) ≡ true → Reach h j i
      up (fr_cons ok u t) b = climbs h r sn post j i fs u t b

  pub visit_step : (fs : List Frame) (post : List ℕ) → VInv h r fs post → Inv (visit_frames h fs post)
  visit_step [] post v = v
  visit_step (at i [] ∷ fs) post v = pop i fs post v
  visit_step (at i (j ∷ es) ∷ fs) post v =
      cond_both {A = Visiting} (mem j post || mem j (i ∷ open_objects fs)) (record { stack = at i es ∷ fs; post = post }) (record { stack = at j (edges h j) ∷ at i (j ∷ es) ∷ fs; post = post }) Inv
      (λ e. pass i j es fs post v (passed_over i j es fs post v e))
      (λ e. push i j es fs post v e)

  pub visit_run_lem : (n : ℕ) (v : Visiting) → Inv v → Inv (visit_run h n v)
  visit_run_lem zero v i = i
  visit_run_lem (suc n) v i = visit_run_lem n (visit_frames h v.stack v.post) (visit_step v.stack v.post i)

-- the fuel suffices: what is left to do falls by one with each step
abbrev unseen : List Object → ℕ → (ℕ → Bool) → ℕ
unseen [] n f = 0
unseen (o ∷ os) n f = cond (f n) 0 (2 + length (edges_of o.parts)) + unseen os (suc n) f

abbrev todo : List Frame → ℕ
todo [] = 0
todo (at i es ∷ fs) = 1 + length es + todo fs

unseen_le : (os : List Object) (n : ℕ) (f g : ℕ → Bool) → ((x : ℕ) → f x ≡ true → g x ≡ true) → unseen os n g ≤ unseen os n f
unseen_le [] n f g t = omega arith
unseen_le (o ∷ os) n f g t = let ih = unseen_le os (suc n) f g t in let u = t n in grind arith

unseen_fuel : (os : List Object) (n : ℕ) (f : ℕ → Bool) → unseen os n f ≤ fuel os
unseen_fuel [] n f = omega arith
unseen_fuel (o ∷ os) n f = let ih = unseen_fuel os (suc n) f in grind arith

-- one more that is seen, at the place d of what is left of the objects
unseen_one : (os : List Object) (n d : ℕ) (f g : ℕ → Bool) → ((x : ℕ) → f x ≡ true → g x ≡ true) → d < length os → f (n + d) ≡ false → g (n + d) ≡ true → unseen os n g + (2 + length (edges_of (get_or os d nobody).parts)) ≤ unseen os n f
unseen_one [] n d f g t lt a b = omega arith
unseen_one (o ∷ os) n zero f g t lt a b = let le = unseen_le os (suc n) f g t in let a' : f n ≡ false = rw add-zero at a in let b' : g n ≡ true = rw add-zero at b in grind arith
unseen_one (o ∷ os) n (suc d) f g t lt a b = let ih = unseen_one os (suc n) d f g t (omega arith) (rw (suc-add, ← add-suc) a) (rw (suc-add, ← add-suc) b) in let u = t n in grind arith

-- What a visit gives.
pub record Visited (h : Heap) (r : ℕ) (post : List ℕ) : Type 0 where
  pub nodup : (y : ℕ) → count y post ≤ 1
  pub inside : (y : ℕ) → mem y post ≡ true → y < length h.objects
  pub ordered : Ordered h r (λ x. mem x post) post
  pub root : mem r post ≡ true
  pub last : Last r post
  pub reach : (y : ℕ) → mem y post ≡ true → Reach h r y

module _ (h : Heap) (r : ℕ) (wf : InRange h) where
  abbrev left : List Frame → List ℕ → ℕ
  left fs post = todo fs + unseen h.objects 0 (seen fs post)

  falls : (f : Frame) (fs : List Frame) (post : List ℕ) → VInv h r (f ∷ fs) post → left (visit_frames h (f ∷ fs) post).stack (visit_frames h (f ∷ fs) post).post < left (f ∷ fs) post
  falls (at i []) fs post v =
      let le = unseen_le h.objects 0 (seen (at i [] ∷ fs) post) (seen fs (post ++ (i ∷ []))) (λ x e. let m = mem_snoc x i post in grind arith) in
      omega arith
  falls (at i (j ∷ es)) fs post v =
      cond_both {A = Visiting} (mem j post || mem j (i ∷ open_objects fs)) (record { stack = at i es ∷ fs; post = post }) (record { stack = at j (edges h j) ∷ at i (j ∷ es) ∷ fs; post = post })
      (λ z. left z.stack z.post < left (at i (j ∷ es) ∷ fs) post)
      (λ e. omega arith)
      (λ e. entered (push h r wf i j es fs post v e) e)
    where
      entered : VInv h r (at j (edges h j) ∷ at i (j ∷ es) ∷ fs) post → seen (at i es ∷ fs) post j ≡ false → left (at j (edges h j) ∷ at i (j ∷ es) ∷ fs) post < left (at i (j ∷ es) ∷ fs) post
      entered v' e =
          let self = eq-eqb j j refl in
          let now_seen : seen (at j (edges h j) ∷ at i (j ∷ es) ∷ fs) post j ≡ true = grind arith in
          let lt = v'.inside j now_seen in
          let one = unseen_one h.objects 0 j (seen (at i es ∷ fs) post) (seen (at j (edges h j) ∷ at i (j ∷ es) ∷ fs) post) (λ x y. grind arith) lt (subst (λ x. seen (at i es ∷ fs) post x ≡ false) (sym (zero-add j)) e) (subst (λ x. seen (at j (edges h j) ∷ at i (j ∷ es) ∷ fs) post x ≡ true) (sym (zero-add j)) now_seen) in
          omega arith

  stays : (n : ℕ) (post : List ℕ) → (visit_run h n (record { stack = []; post = post })).stack ≡ []
  stays zero post = refl
  stays (suc n) post = stays n post

  ends : (n : ℕ) (fs : List Frame) (post : List ℕ) → VInv h r fs post → left fs post ≤ n → (visit_run h n (record { stack = fs; post = post })).stack ≡ []
  ends zero [] post v le = refl
  ends zero (at i es ∷ fs) post v le = absurd (omega arith)
  ends (suc n) [] post v le = stays n post
  ends (suc n) (f ∷ fs) post v le =
      let d = falls f fs post v in
      ends n (visit_frames h (f ∷ fs) post).stack (visit_frames h (f ∷ fs) post).post (visit_step h r wf (f ∷ fs) post v) (omega arith)

  starts : r < length h.objects → VInv h r (at r (edges h r) ∷ []) []
  starts lt = record {
    nodup = λ y. grind arith;
    inside = λ y e. ⊎_elim (λ (a : eqb y r ≡ true). rw (eqb-true y r a) lt) (λ b. absurd (both_ways false refl b)) (or_cases (eqb y r) false e);
    frames = fr_cons (record { passed = []; whole = refl; fine = λ m x. absurd (both_ways false refl x) }) refl fr_nil;
    ordered = o_nil;
    root = grind (arith, eq-eqb r r refl);
    reach = λ y e. ⊎_elim (λ (a : eqb y r ≡ true). rw (eqb-true y r a) at_root) (λ b. absurd (both_ways false refl b)) (or_cases (eqb y r) false e);
    closes = tt;
  }

  final : (fs : List Frame) (post : List ℕ) → fs ≡ [] → VInv h r fs post → Visited h r post
  final fs post e v =
      let v' : VInv h r [] post = rw e at v in
      record {
        nodup = λ y. let n = v'.nodup y in omega arith;
        inside = λ y m. v'.inside y (or_left (mem y post) false m);
        ordered = ordered_more h r (seen [] post) (λ x. mem x post) (λ x t. grind arith) v'.ordered;
        root = let t = v'.root in grind arith;
        last = v'.closes;
        reach = λ y m. v'.reach y (or_left (mem y post) false m);
      }

  -- the visit ends: its stack is empty after its fuel
  pub visit_ends : r < length h.objects → (visit_run h (fuel h.objects) (record { stack = at r (edges h r) ∷ []; post = [] })).stack ≡ []
  visit_ends lt =
      let v = starts lt in
      let u = unseen_one h.objects 0 r (λ x. false) (seen (at r (edges h r) ∷ []) []) (λ x e. absurd (both_ways false refl e)) lt refl (subst (λ x. seen (at r (edges h r) ∷ []) [] x ≡ true) (sym (zero-add r)) v.root) in
      let all = unseen_fuel h.objects 0 (λ x. false) in
      ends (fuel h.objects) (at r (edges h r) ∷ []) [] v (omega arith)

  -- what the visit gives
  pub visited : r < length h.objects → Visited h r (visit h r)
  visited lt =
      final (visit_run h (fuel h.objects) (record { stack = at r (edges h r) ∷ []; post = [] })).stack (visit h r) (visit_ends lt)
      (visit_run_lem h r wf (fuel h.objects) (record { stack = at r (edges h r) ∷ []; post = [] }) (starts lt))

-- an edge of an object goes to one before it, or to one that is reached twice
module _ (h : Heap) (r : ℕ) (sn : ℕ → Bool) where
  pub at_split : {post : List ℕ} → Ordered h r sn post → (before : List ℕ) (i : ℕ) (after : List ℕ) → post ≡ before ++ (i ∷ after) → Fine h r sn before i (edges h i)
  at_split o_nil before i after e = absurd (nil_app before i after e)
  at_split (o_snoc {before = ps} x f o) before i after e =
      ⊎_elim
      (λ (a : (ps ≡ before) × (x ≡ i)). subst (λ z. Fine h r sn before z (edges h z)) a.1 (subst (λ z. Fine h r sn z x (edges h x)) a.0 f))
      (λ (c : (rest : List ℕ) × (ps ≡ before ++ (i ∷ rest))). at_split o before i c.0 c.1)
      (snoc_split ps x before i after e)

module _ (h : Heap) (r : ℕ) (post : List ℕ) (V : Visited h r post) where
  -- what an edge of a reached object goes to is reached
  pub closed : (i j : ℕ) → mem i post ≡ true → mem j (edges h i) ≡ true → mem j post ≡ true
  closed i j m u =
      let s = split_at i post m in
      ⊎_elim (λ (a : mem j s.before ≡ true). ap (mem j) s.whole ∙ mem_left j s.before (i ∷ s.after) a) (λ (b : Twice h r (λ x. mem x post) i j). b.0)
      (at_split h r (λ x. mem x post) V.ordered s.before i s.after s.whole j u)

  -- the order has all that is reachable
  pub reached_in : (y : ℕ) → Reach h r y → mem y post ≡ true
  reached_in y at_root = V.root
  reached_in y (by_edge {i = i} t u) = closed i y (reached_in i t) u

-- The same of the visit itself.
module _ (h : Heap) (r : ℕ) (wf : InRange h) (lt : r < length h.objects) where
  -- no object twice
  pub visit_nodup : (y : ℕ) → count y (visit h r) ≤ 1
  visit_nodup = (visited h r wf lt).nodup

  -- only objects of the heap
  pub visit_inside : (y : ℕ) → mem y (visit h r) ≡ true → y < length h.objects
  visit_inside = (visited h r wf lt).inside

  -- the root is in it
  pub visit_rooted : mem r (visit h r) ≡ true
  visit_rooted = (visited h r wf lt).root

  -- and is its last
  pub visit_last : Last r (visit h r)
  visit_last = (visited h r wf lt).last

  -- what an edge of a reached object goes to is reached
  pub visit_closed : (i j : ℕ) → mem i (visit h r) ≡ true → mem j (edges h i) ≡ true → mem j (visit h r) ≡ true
  visit_closed = closed h r (visit h r) (visited h r wf lt)

  -- all of it is reachable
  pub visit_reach : (y : ℕ) → mem y (visit h r) ≡ true → Reach h r y
  visit_reach = (visited h r wf lt).reach

  -- all that is reachable is in it
  pub reach_visit : (y : ℕ) → Reach h r y → mem y (visit h r) ≡ true
  reach_visit = reached_in h r (visit h r) (visited h r wf lt)
