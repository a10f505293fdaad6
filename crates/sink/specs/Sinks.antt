-- What each sink of this crate means.
use Rattle.std.specs.Prelude.{ℕ, ◌+◌, ◌-◌, ◌%◌, ◌^◌, List, [], ◌∷◌, ◌++◌, length, take}
use Rattle.std.specs.Borrow.{GName, MutBor}
use Rattle.sink.specs.declared.counter.Counter.{Counter}
use Rattle.sink.specs.declared.page.Page.{Page}
use Rattle.sink.specs.declared.tally.Tally.{Tally}
use Rattle.sink.specs.Meanings.{Meaning}

-- a page keeps the bytes
abbrev pub page_means : Meaning Page
page_means =
    record {
      State = List ℕ;
      state = λ p. take p.len p.bytes.now;
      rule = λ s b. s ++ b ∷ [];
      space = λ p. length p.bytes.now - p.len;
      Place = GName × ℕ;
      place = λ p. (p.bytes.ghost_name, length p.bytes.now);
    }

-- a counter keeps their number
abbrev pub counter_means : Meaning Counter
counter_means =
    record {
      State = ℕ;
      state = λ c. c.count;
      rule = λ n _. n + 1;
      space = λ c. c.space;
      Place = Unit {0};
      place = λ _. tt;
    }

-- a lent sink means what the sink means
abbrev pub lent_means : {K : Type 0} → Meaning K → Meaning (MutBor K)
lent_means m =
    record {
      State = m.State;
      state = λ l. m.state l.now;
      rule = m.rule;
      space = λ l. m.space l.now;
      Place = GName × m.Place;
      place = λ l. (l.ghost_name, m.place l.now);
    }

-- a tally means what its sink means, and a count of 64 bits
abbrev pub tally_means : {K : Type 0} → Meaning K → Meaning (Tally K)
tally_means m =
    record {
      State = m.State × ℕ;
      state = λ t. (m.state t.sink.now, t.count);
      rule = λ s b. (m.rule s.0 b, (s.1 + 1) % 2 ^ 64);
      space = λ t. m.space t.sink.now;
      Place = GName × m.Place;
      place = λ t. (t.sink.ghost_name, m.place t.sink.now);
    }
