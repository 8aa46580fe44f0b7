-- Why a set can't come into focus.
use Rattle.std.specs.Prelude.{Option, Some, None, option_map}
use Rattle.brisk_syntax.specs.Syntax.{Code}
use Rattle.brisk_state.specs.declared.fault.FocusFault.{FocusFault}
use Rattle.brisk_state.specs.declared.fault.FocusFault.TheVariants.{NoThread, SetIsFocused}
use Rattle.brisk_state.specs.declared.thread.Mode.{Mode}
use Rattle.brisk_state.specs.declared.thread.Mode.TheVariants.{One, At, Each}
use Rattle.brisk_state.specs.declared.thread.Thread.{Thread}

-- the mode of the thread, where there is one
abbrev pub mode_of : Option Thread → Option Mode
mode_of = option_map (λ u. u.mode)

-- the code of the thread, where there is one
abbrev pub code_of : Option Thread → Option Code
code_of = option_map (λ u. u.code)

-- only a set comes into focus, and not twice
abbrev pub focus_fault : Option Mode → Option FocusFault
focus_fault None = Some NoThread
focus_fault (Some One) = Some NoThread
focus_fault (Some At) = Some SetIsFocused
focus_fault (Some Each) = None
