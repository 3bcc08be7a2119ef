use Rattle.std.proofs.Common.{length, ap, arith}
use Rattle.sl_run.proofs.Names.{name_short}
use Rattle.sl_run.proofs.status.push_name.Goals as goal

pub push-requires : goal.push-requires
push-requires c = omega (arith, ap length c.bytes.ensures.value, name_short c.args.name.now c.bytes.ensures.name, c.requires)
