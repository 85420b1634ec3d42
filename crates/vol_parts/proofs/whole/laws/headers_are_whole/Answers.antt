use Rattle.vol_parts.proofs.WholeHeaders.{whole_header, whole_runs, whole_map, whole_blocks, whole_link, whole_mark, whole_owner, whole_end, whole_marked, whole_scattered, whole_freed}
use Rattle.vol_parts.proofs.whole.laws.headers_are_whole.Goals as goal

pub returns : goal.returns
returns c = record {
  header = whole_header;
  runs = whole_runs;
  map = whole_map;
  blocks = whole_blocks;
  link = whole_link;
  mark = whole_mark;
  owner = whole_owner;
  end = whole_end;
  marked = whole_marked;
  scattered = whole_scattered;
  freed = whole_freed;
}
