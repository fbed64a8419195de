-- None of the functions asks anything of its caller. Assumes nothing.
use Rattle.claims.specs.Functions.{AskNothing}

pub ask-nothing : AskNothing
ask-nothing = record { read-asks = λ κs args. tt; start-asks = λ κs args. tt; second-asks = λ κs args. tt; seconds-asks = λ κs args. tt }
