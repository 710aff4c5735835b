use Rattle.reuse_header.proofs.laws.lower_laws.Goals as goal

pub returns : goal.returns
returns c = record {
  known = record {
    merges = record {
      written = c.merged_notices_are_written.ensures;
      some = c.holders_are_values.ensures.some;
      trim = c.holders_are_values.ensures.trimmed;
    };
    sorted = c.sets_are_one.ensures.sorted;
    none = c.longest_prefix_counts.ensures.none;
  };
  laws = record {
    joined = c.lines_are_one.ensures.joined;
    well = c.lines_are_one.ensures.well_formed;
    only = c.lines_are_one.ensures.only;
    sets = c.sets_are_one.ensures.only;
    united = c.repeating_adds_nothing.ensures.united;
    merged = c.repeating_adds_nothing.ensures.merged;
  };
}
