use Rattle.std.proofs.Common.{refl}
use Rattle.hex.proofs.HexLemmas.{IsOk-decode_sized, IsOk-written}
use Rattle.object_frames.proofs.id.Id.of_hex.Goals as goal

pub returns-in-Ok-clause-digits : goal.returns-in-Ok-clause-digits
returns-in-Ok-clause-digits c =
    let written = IsOk-written _ _ _ c.decode_to_slice.ensures.value in
    let digits = IsOk-decode_sized c.args.text.now 20 in
    (λ h. digits.0 (written.0 (rw c.in-Ok.is refl)), λ h. refl)

pub returns-in-Err-clause-digits : goal.returns-in-Err-clause-digits
returns-in-Err-clause-digits c =
    let written = IsOk-written _ _ _ c.decode_to_slice.ensures.value in
    let digits = IsOk-decode_sized c.args.text.now 20 in
    (λ h. cc h, λ h. rw c.in-Err.is at (written.1 (digits.1 h)))
