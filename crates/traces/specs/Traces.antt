-- Traces of a delivery: what send, left and end answer, call by call.
use Rattle.std.specs.Prelude.{◌≡◌, ℕ, ◌+◌, ◌<◌, ◌≤◌, List, [], ◌∷◌, ◌++◌, length, take}
use Rattle.sink.specs.Meanings.{Meaning, run}

-- a send tells the bytes of its line, or refuses with a number
pub data Answer : Type 0 where
  told refused : ℕ → Answer

-- One call. Of a send: the space that its sink had, the bytes over which its sink's rule was followed, and the answer.
pub data Entry : Type 0 where
  sends : ℕ → List ℕ → Answer → Entry
  lefts ends : ℕ → Entry

-- A send into a sink that means k before and k' after leaves this entry: the sink's rule was followed over the entry's bytes, in the entry's space.
-- An entry itself has no sink, so a trace may go to sinks of several types.
pub record Leaves {K : Type 0} (m : Meaning K) (k : K) (answer : Answer) (k' : K) (e : Entry) : Type 0 where
  pub got : List ℕ
  pub entry : e ≡ sends (m.space k) got answer
  pub goes : m.state k' ≡ run m.rule (m.state k) got
  pub space : m.space k' + length got ≡ m.space k
  pub stays : m.place k' ≡ m.place k

-- What one call does to a delivery of lines that are left, each in bytes. This is what the calls' contracts say.
abbrev pub SendsLine : List ℕ → List (List ℕ) → ℕ → List ℕ → Answer → List (List ℕ) → Type 0
SendsLine l ls space got (told n) after = (length l ≤ space) × (n ≡ length l) × (got ≡ l) × (after ≡ ls)
SendsLine l ls space got (refused k) after = (k ≡ 22) × (space < length l) × (got ≡ take space l) × (after ≡ l ∷ ls)

abbrev pub Sends : List (List ℕ) → ℕ → List ℕ → Answer → List (List ℕ) → Type 0
Sends [] space got (told n) after = ⊥
Sends [] space got (refused k) after = (k ≡ 23) × (got ≡ []) × (after ≡ [])
Sends (l ∷ ls) space got answer after = SendsLine l ls space got answer after

abbrev pub Does : List (List ℕ) → Entry → List (List ℕ) → Type 0
Does left (sends space got answer) after = Sends left space got answer after
Does left (lefts n) after = (n ≡ length left) × (after ≡ left)
Does left (ends n) after = (n ≡ length left) × (after ≡ left)

-- end takes the delivery: nothing comes after it
abbrev pub MayFollow : Entry → List Entry → Type 0
MayFollow (sends space got answer) es = Unit {0}
MayFollow (lefts n) es = Unit {0}
MayFollow (ends n) es = es ≡ []

-- the entries lead from the lines that are left at first to those that are left at the end
pub data Trace : List (List ℕ) → List Entry → List (List ℕ) → Type 0 where
  begins : {left : List (List ℕ)} → Trace left [] left
  calls : {left between after : List (List ℕ)} {e : Entry} {es : List Entry} → Does left e between → MayFollow e es → Trace between es after → Trace left (e ∷ es) after

-- the lines that were sent whole
abbrev pub whole_by : List ℕ → Answer → List (List ℕ)
whole_by got (told n) = got ∷ []
whole_by got (refused k) = []

abbrev pub sent_by : Entry → List (List ℕ)
sent_by (sends space got answer) = whole_by got answer
sent_by (lefts n) = []
sent_by (ends n) = []

abbrev pub sent : List Entry → List (List ℕ)
sent [] = []
sent (e ∷ es) = sent_by e ++ sent es
