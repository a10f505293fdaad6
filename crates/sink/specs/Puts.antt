-- What it is to put bytes into a sink, told by what the sink means before, k, and after, k'.
use Rattle.std.specs.Prelude.{◌≡◌, ℕ, ◌+◌, ◌-◌, ◌^◌, ◌<◌, cond, List, length, take, IfOk, Some, None, Ok, Err, Option, Result, nat_le}
use Rattle.sink.specs.declared.fault.SinkFault.{SinkFault}
use Rattle.sink.specs.Faults.{Refusal, full, refusal}
use Rattle.sink.specs.Meanings.{Meaning, run}

-- one byte was taken, so there was space for it
pub record Took {K : Type 0} (m : Meaning K) (k : K) (b : ℕ) (k' : K) : Type 0 where
  pub left : m.space k' + 1 ≡ m.space k
  pub goes : m.state k' ≡ m.rule (m.state k) b
  pub stays : m.place k' ≡ m.place k
  pub small : m.space k < 2 ^ 64

-- One byte: the sink took it, or had no space, refused and stayed as it was.
abbrev pub PutOne : {K : Type 0} → Meaning K → K → ℕ → Result Unit SinkFault → K → Type 0
PutOne m k b (Ok u) k' = Took m k b k'
PutOne m k b (Err f) k' = (refusal f ≡ full) × (m.space k ≡ 0) × (k' ≡ k)

-- the refusal that a result tells
abbrev pub answer : Result Unit SinkFault → Option Refusal
answer (Ok u) = None
answer (Err f) = Some (refusal f)

-- the refusal that n bytes get from a sink with so much space
abbrev pub due : ℕ → ℕ → Option Refusal
due space n = cond (nat_le n space) None (Some full)

-- Some bytes were put in their order: all of them where there was space for all, else as many as there was space for.
pub record Put {K : Type 0} (m : Meaning K) (k : K) (bs : List ℕ) (r : Result Unit SinkFault) (k' : K) : Type 0 where
  pub answers : answer r ≡ due (m.space k) (length bs)
  pub left : m.space k' ≡ m.space k - length bs
  pub goes : m.state k' ≡ run m.rule (m.state k) (take (m.space k) bs)
  pub stays : m.place k' ≡ m.place k
  pub small : 0 < length bs → m.space k < 2 ^ 64

-- an answer without its value
abbrev pub plain : {T : Type 0} → Result T SinkFault → Result Unit SinkFault
plain (Ok x) = Ok tt
plain (Err f) = Err f

-- Some bytes were put, and if all of them were, their number is the answer.
pub record Told {K : Type 0} (m : Meaning K) (k : K) (bs : List ℕ) (r : Result ℕ SinkFault) (k' : K) : Type 0 where
  pub puts : Put m k bs (plain r) k'
  pub counts : IfOk r (λ n. n ≡ length bs)
