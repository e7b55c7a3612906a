-- `write_run` meets its contract: the last bytes of the whole run. Assumes nothing.
use mathlib.Core.Path.{◌∙◌}
use lib.ListN.{length}
use Rattle.codec.proofs.RunLaws.{run_bytes}
use Rattle.codec.proofs.halves.write_run.Goals as goal

pub returns : goal.returns
returns c = c.copy_from_slice.ensures.after ∙ rw c.to_be_bytes-bytes.ensures (run_bytes (length c.args.target.now) c.args.run c.requires)
