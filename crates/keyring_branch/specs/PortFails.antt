-- A port's answer as one of the reading of a keyring.
use Rattle.child_ports.specs.declared.fail.PortFail.{PortFail}
use Rattle.child_ports.specs.declared.fail.PortFail.TheVariants as port
use Rattle.keyring_branch.specs.declared.keyring_fail.KeyringFail.{KeyringFail}
use Rattle.keyring_branch.specs.declared.keyring_fail.KeyringFail.TheVariants.{GitFault, Memory}

abbrev pub fail_of : PortFail → KeyringFail
fail_of port.Failed = GitFault
fail_of port.Memory = Memory
