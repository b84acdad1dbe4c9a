use Rattle.std.proofs.Common.{arith}
use Rattle.byteorder.specs.Endian.{little_bytes}
use Rattle.fg_stripe.proofs.LabelLaws.{put-behind}
use Rattle.fg_stripe.proofs.bytes.put_number.Goals as goal

pub returns : goal.returns
returns c = put-behind c.args.place 4 c.args.bytes.now (little_bytes 4 c.args.number) _ (omega (arith, c.requires)) c.write_u32.ensures
