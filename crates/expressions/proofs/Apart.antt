-- Keys that differ by SameValueZero: each is added at the end of a Map or a Set.
use Rattle.std.proofs.Common.{◌≡◌, ℕ, false, List, [], ◌∷◌, ◌++◌, sym, refl, ap, ◌∙◌, subst, append_assoc, append-nil, arith}
use Rattle.std.specs.List.{AllByRecursion as All}
use Rattle.std.proofs.lemmas.Bool.{cond-false, or_from, or_parts}
use Rattle.dump.specs.Heaps.{Value, Part, entry, member}
use Rattle.formed.specs.Formed.{ValueFormed, SameValueZero, Kept, EntryFormed, MemberFormed, EntryApart, MemberApart, Pairwise}
use Rattle.formed.proofs.SameValues.{same_value_sym}
use Rattle.evaluator.specs.Stores.{Val, Slot, pair, single, same_zero, plus_zero, member_is, has_member, set_member, map_set, set_add}
use Rattle.evaluator.specs.Makes.{members}
use Rattle.evaluator.specs.Isomorphic.{Pairing, Alike, AlikeParts}
use Rattle.effects.specs.Effects.{map_from}
use Rattle.pending.proofs.Lists.{all_before}
use Rattle.pending.proofs.Keys.{keys_apart, kept_plus}

-- a part that is an entry, one that is a member
pub on_entry : (P : Part → Type 0) (n : ℕ) → ((k v : Value) → Kept n k → ValueFormed n v → P (entry k v)) → (p : Part) → EntryFormed n p → P p
on_entry P n f p w = subst P (sym w.2) (f w.0 w.1 w.3 w.4)

pub on_member : (P : Part → Type 0) (n : ℕ) → ((v : Value) → Kept n v → P (member v)) → (p : Part) → MemberFormed n p → P p
on_member P n f p w = subst P (sym w.1) (f w.0 w.2)

pub pairwise_before : {X : Type 0} (R : X → X → Type 0) (xs ys : List X) → Pairwise R (xs ++ ys) → Pairwise R xs
pairwise_before R [] ys a = tt
pairwise_before R (x ∷ xs) ys a = (all_before (R x) xs ys a.0, pairwise_before R xs ys a.1)

-- the slots of a Set
abbrev pub singles : List Val → List Slot
singles [] = []
singles (w ∷ ws) = single w ∷ singles ws

has_snoc : (w : Val) (ss : List Slot) (s : Slot) → has_member w ss ≡ false → member_is w s ≡ false → has_member w (ss ++ (s ∷ [])) ≡ false
has_snoc w [] s e d = or_from (member_is w s) false d refl
has_snoc w (x ∷ ss) s e d = let p = or_parts (member_is w x) (has_member w ss) e in or_from (member_is w x) (has_member w (ss ++ (s ∷ []))) p.0 (has_snoc w ss s p.1 d)

apart_slots : {s : Slot} {ss : List Slot} → s ∷ ss ≡ [] → ⊥
apart_slots e = let z : ◌≡◌ {A = ℕ} 0 1 = cc in omega arith

module _ (own : Pairing) (n : ℕ) where
  -- none that stands for this key is there
  abbrev pub Away : List Slot → Value → Type 0
  Away ss k = (w : Val) → Alike own k w → has_member w ss ≡ false

  away_snoc : (k j : Value) (u : Val) (s : Slot) (ss : List Slot) → ValueFormed n k → ValueFormed n j → Alike own k u → ((w : Val) → member_is w s ≡ same_zero w u) → (SameValueZero k j → ⊥) → Away ss j → Away (ss ++ (s ∷ [])) j
  away_snoc k j u s ss f g a is apart away w b = has_snoc w ss s (away w b) (is w ∙ keys_apart own n j k w u g f b a (λ z. apart (same_value_sym j k z)))

  -- one more member, one more entry
  pub set_add_end : (v : Value) (w : Val) (ss : List Slot) → Kept n v → Alike own v w → Away ss v → set_add w ss ≡ ss ++ (single w ∷ [])
  set_add_end v w ss k a away = cond-false (has_member w ss) ss (ss ++ (single (plus_zero w) ∷ [])) (away w a) ∙ ap (λ z. ss ++ (single z ∷ [])) (kept_plus own n v w k a)

  pub map_set_end : (k : Value) (u w : Val) (ss : List Slot) → Kept n k → Alike own k u → Away ss k → map_set u w ss ≡ ss ++ (pair u w ∷ [])
  map_set_end k u w ss x a away = cond-false (has_member u ss) (set_member u w ss) (ss ++ (pair (plus_zero u) w ∷ [])) (away u a) ∙ ap (λ z. ss ++ (pair z w ∷ [])) (kept_plus own n k u x a)

  -- members of which none is there
  abbrev pub MembersAway : List Slot → List Part → Type 0
  MembersAway ss ps = All (λ p. (v : Value) → p ≡ member v → Away ss v) ps

  members_away_nil : (ps : List Part) → MembersAway [] ps
  members_away_nil [] = tt
  members_away_nil (p ∷ ps) = (λ v e w a. refl, members_away_nil ps)

  members_away : (v : Value) (w : Val) (ss : List Slot) (ps : List Part) → Kept n v → Alike own v w → All (MemberFormed n) ps → All (MemberApart (member v)) ps → MembersAway ss ps → MembersAway (ss ++ (single w ∷ [])) ps
  members_away v w ss [] k a f b c = tt
  members_away v w ss (p ∷ ps) k a f b c = (
    λ u e. on_member (λ q. q ≡ member u → Away (ss ++ (single w ∷ [])) u) n
        (λ u' x d. let i : u' ≡ u = cc in away_snoc v u w (single w) ss k.0 (subst (ValueFormed n) i x.0) a (λ z. refl) (b.0 v u refl e) (c.0 u e)) p f.0 e,
    members_away v w ss ps k a f.1 b.1 c.1,
  )

  -- all members one by one
  members_behind : (ps : List Part) (ws : List Val) (ss : List Slot) → All (MemberFormed n) ps → Pairwise MemberApart ps → AlikeParts own 0 ps (singles ws) → MembersAway ss ps → members ws ss ≡ ss ++ singles ws
  members_behind [] [] ss f b a c = sym (append-nil ss)
  members_behind [] (w ∷ ws) ss f b a c = absurd (apart_slots a)
  members_behind (p ∷ ps) [] ss f b a c = absurd (on_member (λ q. AlikeParts own 0 (q ∷ ps) [] → ⊥) n (λ v k x. apart_slots (sym x.2)) p f.0 a)
  members_behind (p ∷ ps) (w ∷ ws) ss f b a c =
      on_member (λ q. All (MemberApart q) ps → AlikeParts own 0 (q ∷ ps) (single w ∷ singles ws) → ((v : Value) → q ≡ member v → Away ss v) → members ws (set_add w ss) ≡ ss ++ (single w ∷ singles ws)) n
      (λ v k y x z.
      let is : single w ∷ singles ws ≡ single x.0 ∷ x.1 = x.2 in
      let one : x.0 ≡ w = cc in
      let more : x.1 ≡ singles ws = cc in
      let says : Alike own v w = subst (Alike own v) one x.3 in
      ap (members ws) (set_add_end v w ss k says (z v refl))
      ∙ (members_behind ps ws (ss ++ (single w ∷ [])) f.1 b.1 (subst (AlikeParts own 0 ps) more x.4) (members_away v w ss ps k says f.1 y c.1)
      ∙ append_assoc ss (single w ∷ []) (singles ws)))
      p f.0 b.0 a c.0

  pub members_end : (ps : List Part) (ws : List Val) → All (MemberFormed n) ps → Pairwise MemberApart ps → AlikeParts own 0 ps (singles ws) → members ws [] ≡ singles ws
  members_end ps ws f b a = members_behind ps ws [] f b a (members_away_nil ps)

  -- entries of which no key is there
  abbrev pub EntriesAway : List Slot → List Part → Type 0
  EntriesAway ss ps = All (λ p. (k v : Value) → p ≡ entry k v → Away ss k) ps

  entries_away_nil : (ps : List Part) → EntriesAway [] ps
  entries_away_nil [] = tt
  entries_away_nil (p ∷ ps) = (λ k v e w a. refl, entries_away_nil ps)

  entries_away : (k v : Value) (u w : Val) (ss : List Slot) (ps : List Part) → Kept n k → Alike own k u → All (EntryFormed n) ps → All (EntryApart (entry k v)) ps → EntriesAway ss ps → EntriesAway (ss ++ (pair u w ∷ [])) ps
  entries_away k v u w ss [] x a f b c = tt
  entries_away k v u w ss (p ∷ ps) x a f b c = (
    λ j v' e. on_entry (λ q. q ≡ entry j v' → Away (ss ++ (pair u w ∷ [])) j) n
        (λ j' v'' y r d. let i : j' ≡ j = cc in away_snoc k j u (pair u w) ss x.0 (subst (ValueFormed n) i y.0) a (λ z. refl) (b.0 k j v v' refl e) (c.0 j v' e)) p f.0 e,
    entries_away k v u w ss ps x a f.1 b.1 c.1,
  )

  -- all entries one by one
  entries_behind : (ps : List Part) (us ss : List Slot) → All (EntryFormed n) ps → Pairwise EntryApart ps → AlikeParts own 0 ps us → EntriesAway ss ps → map_from us ss ≡ ss ++ us
  entries_behind [] us ss f b a c = ap (λ z. map_from z ss) a ∙ (sym (append-nil ss) ∙ ap (λ z. ss ++ z) (sym a))
  entries_behind (p ∷ ps) us ss f b a c =
      on_entry (λ q. All (EntryApart q) ps → AlikeParts own 0 (q ∷ ps) us → ((k v : Value) → q ≡ entry k v → Away ss k) → map_from us ss ≡ ss ++ us) n
      (λ k v x r y s z.
      subst (λ us. map_from us ss ≡ ss ++ us) (sym s.3)
      (ap (map_from s.2) (map_set_end k s.0 s.1 ss x s.4 (z k v refl))
      ∙ (entries_behind ps s.2 (ss ++ (pair s.0 s.1 ∷ [])) f.1 b.1 s.6 (entries_away k v s.0 s.1 ss ps x s.4 f.1 y c.1)
      ∙ append_assoc ss (pair s.0 s.1 ∷ []) s.2)))
      p f.0 b.0 a c.0

  pub entries_end : (ps : List Part) (us : List Slot) → All (EntryFormed n) ps → Pairwise EntryApart ps → AlikeParts own 0 ps us → map_from us [] ≡ us
  entries_end ps us f b a = entries_behind ps us [] f b a (entries_away_nil ps)
