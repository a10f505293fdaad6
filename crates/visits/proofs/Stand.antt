-- The visit from the root of a formed heap has all that a plan by places stands on.
use Rattle.std.proofs.Common.{◌≡◌, ℕ, ap}
use Rattle.dump.specs.Heaps.{object, Heap}
use Rattle.formed.specs.Formed.{Formed}
use Rattle.planner.specs.Visits.{refs, visit}
use Rattle.visits.specs.Stands.{Stands}
use Rattle.visits.proofs.Edges.{turn_named, inlines_back, visit_goes, visit_turn_uses, visit_inlines_ahead, visit_inlines_used}
use Rattle.visits.proofs.Ranges.{formed_range, root_range}
use Rattle.visits.proofs.Visits.{visit_ends, visit_nodup, visit_last, visit_reach, reach_visit}

pub stands : (h : Heap) (r : ℕ) → Formed h → h.root ≡ object r → Stands h r
stands h r f e =
    let wf = formed_range h f in
    let lt = root_range h f r e in
    let root = ap refs e in
    record {
      ends = visit_ends h r wf lt;
      once = visit_nodup h r wf lt;
      last = visit_last h r wf lt;
      reached = visit_reach h r wf lt;
      reachable = reach_visit h r wf lt;
      goes = visit_goes h r wf lt;
      named = turn_named h (visit h r);
      twice = visit_turn_uses h r wf lt root;
      back = inlines_back h (visit h r);
      ahead = visit_inlines_ahead h r wf lt root;
      single = visit_inlines_used h r wf lt root;
    }
