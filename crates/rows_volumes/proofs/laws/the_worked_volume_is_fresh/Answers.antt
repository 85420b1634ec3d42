use Rattle.std.proofs.Common.{refl}
use Rattle.rows_sample.specs.Fresh.{main_entries as named, system_files, fresh as example}
use Rattle.vol_init.specs.Layouts.{index_clusters, bitmap_clusters, clusters_of, main_entries, quota_rows, fresh}
use Rattle.rows_volumes.proofs.laws.the_worked_volume_is_fresh.Goals as goal

pub returns : goal.returns
unfolding index_clusters bitmap_clusters clusters_of main_entries quota_rows fresh named system_files example
returns c = refl
