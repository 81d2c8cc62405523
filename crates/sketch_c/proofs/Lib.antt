mod Rules
