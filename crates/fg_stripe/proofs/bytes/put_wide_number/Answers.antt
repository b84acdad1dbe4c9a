use Rattle.std.proofs.Common.{arith}
use Rattle.byteorder.specs.Endian.{little_bytes}
use Rattle.fg_stripe.proofs.LabelLaws.{put-behind}
use Rattle.fg_stripe.proofs.bytes.put_wide_number.Goals as goal

pub returns : goal.returns
returns c = put-behind c.args.place 8 c.args.bytes.now (little_bytes 8 c.args.number) _ (omega (arith, c.requires)) c.write_u64.ensures
